-- What the check asks of `find_in`.
use Rattle.std.proofs.Common.{◌≡◌, List, rules, inr, subst}
use Rattle.std.specs.Prelude.{None}
use Rattle.page_files.specs.Found.{IsDamaged}
use Rattle.page_files.specs.Identified.{format_of}
use Rattle.page_files.specs.declared.identify.Tried.{Tried}
use Rattle.page_files.proofs.found.find_in.Goals as goal

pub returns-clause-found : goal.returns-clause-found
returns-clause-found c =
    let octets = c.args.octets.now in
    let no_format : format_of octets ≡ None = search rules in
    inr (
      no_format,
      record {
        tried = c.in_ok-results.results.tried.items;
        own = c.in_ok-results.own;
        are_tried = c.in_ok-results.ensures.tried;
        two = c.two_dims_said-two.result;
        are_two = c.two_dims_said-two.ensures;
        agreed = c.in_ok-agreed.agreed;
        is_agreed = search rules;
        damaged = c.damaged_way-damaged.result;
        is_damaged = subst (λ (l : List Tried). IsDamaged (record { own = c.in_ok-results.own; two = c.two_dims_said-two.result }) octets l
            c.in_ok-agreed.agreed c.damaged_way-damaged.result) c.deref-3.ensures.value c.damaged_way-damaged.ensures.damaged;
        found_is = search rules;
      },
    )
