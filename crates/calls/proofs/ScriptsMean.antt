-- What the lines of a script mean.
use Rattle.std.proofs.Common.{◌≡◌, ◌<◌, ◌≤◌, ◌^◌, ℕ, zero, suc, true, false, List, [], ◌∷◌, ◌++◌}
use Rattle.std.proofs.Common.{None, length, codes, refl, ap, sym, ◌∙◌, subst, arith, inl, inr, append_assoc, map, replicate}
use Rattle.std.specs.Fmt.{decimal}
use Rattle.std.specs.List.{AllByRecursion}
use Rattle.std.specs.Str.{IsUtf8}
use Rattle.std.proofs.lemmas.Fmt.{decimal_is_IsNumeral, length-decimal-le}
use Rattle.std.proofs.lemmas.List.{append-nil, length-map, length-replicate}
use Rattle.std.proofs.lemmas.Str.{IsUtf8-from_ascii}
use Rattle.line_sim.specs.Line.{Outcome, Done, happens}
use Rattle.line_sim.specs.declared.event.Event.{Event}
use Rattle.line_sim.specs.declared.event.Event.TheVariants.{DeliverToAnswerer, DeliverToCaller, LoseToAnswerer, LoseToCaller}
use Rattle.line_sim.specs.declared.event.Event.TheVariants.{Spoil, CallerTimeout, CallerT5, AnswererT1, AnswererT2, Busy}
use Rattle.calls.specs.Calls.{Steps}
use Rattle.calls.specs.Scripts.{HasNoFeed, IsCount, IsLineOf, Says, ended, said_before, word_of}
use Rattle.calls.specs.ScriptsMean.{CountsMake, CountsMean, Does, LinesMean, WordsDo}
use Rattle.calls.specs.declared.script.Command.{Command}
use Rattle.calls.specs.declared.script.Command.TheVariants.{Events, Polite}
use Rattle.calls.proofs.OneScript.{no_cut, one_command, one_cut, one_event, polite_is_none}
use Rattle.calls.proofs.ScriptWords.{lacks_at, word_solid}

-- ---- words

-- an event does what it does, by its own word
does : (event : Event) → Does (word_of event) (λ w. happens w event Done)
does event = record {
  some = (event, refl);
  each = λ other w e. ap (λ (x : Event). happens w x Done) (one_event other event e);
}

pub words_do : WordsDo
words_do = record {
  to_answerer = does DeliverToAnswerer;
  to_caller = does DeliverToCaller;
  lose_to_answerer = does LoseToAnswerer;
  lose_to_caller = does LoseToCaller;
  spoil = does Spoil;
  caller_timeout = does CallerTimeout;
  caller_t5 = does CallerT5;
  answerer_t1 = does AnswererT1;
  answerer_t2 = does AnswererT2;
  busy = does (Busy true);
  ready = does (Busy false);
}

-- ---- numbers

counted : (count : ℕ) → 1 ≤ count → count ≤ 1000000 → IsCount (decimal count) count
counted count least most =
    let wide : count < 2 ^ 64 = omega (arith, most) in
    let seven : count < 10 ^ 7 = omega (arith, most) in
    let numeral = decimal_is_IsNumeral count wide in
    record {
      numeral = numeral.0;
      short = length-decimal-le 7 count (omega arith) seven wide;
      value = sym numeral.1;
      least = least;
      most = most;
    }

one : IsCount (codes "0000001") 1
one = record {
  numeral = (omega arith, (omega arith, (omega arith, (omega arith, (omega arith, (omega arith, (omega arith, (omega arith, tt))))))));
  short = omega arith;
  value = refl;
  least = omega arith;
  most = omega arith;
}

solid : (event : Event) (rest : List ℕ) → word_of event ≡ codes "polite" ++ 32 ∷ rest → ⊥
solid event rest e = no_cut 32 (word_of event) (codes "polite") rest (lacks_at 32 (word_of event) (word_solid event)) e

polite_alone : (command : Command) → Says (codes "polite") command → ⊥
polite_alone (Events event count) (inl (is, once)) = polite_is_none event (sym is)
polite_alone (Events event count) (inr (digits, is, counts)) =
    no_cut 32 (codes "polite") (word_of event) digits (lacks_at 32 (codes "polite") refl) is
polite_alone (Polite most) (digits, is, counts) = no_cut 32 (codes "polite") (codes "polite") digits (lacks_at 32 (codes "polite") refl) is

few : (line : List ℕ) (event : Event) (count : ℕ) → Says line (Events event count) → (1 ≤ count) × (count ≤ 1000000)
few line event count (inl (is, once)) = (omega (arith, once), omega (arith, once))
few line event count (inr (digits, is, counts)) = (counts.least, counts.most)

eight_digits : (event : Event) (digits : List ℕ) (command : Command) → 8 ≤ length digits → Says (word_of event ++ 32 ∷ digits) command → ⊥
eight_digits event digits (Events other count) long (inl (is, once)) =
    no_cut 32 (word_of other) (word_of event) digits (lacks_at 32 (word_of other) (word_solid other)) (sym is)
eight_digits event digits (Events other count) long (inr (others, is, counts)) =
    let parts = one_cut 32 (word_of event) (word_of other) digits others (lacks_at 32 (word_of event) (word_solid event))
    (lacks_at 32 (word_of other) (word_solid other)) is in
    let same : length digits ≡ length others = ap length parts.1 in
    let short = counts.short in
    absurd (omega (arith, long, same, short))
eight_digits event digits (Polite most) long (others, is, counts) =
    let parts = one_cut 32 (word_of event) (codes "polite") digits others (lacks_at 32 (word_of event) (word_solid event))
    (lacks_at 32 (codes "polite") refl) is in
    polite_is_none event parts.0

pub counts_mean : CountsMean
counts_mean = record {
  once = λ event command. (
    λ says. one_command (word_of event) command (Events event 1) says (inl (refl, refl)),
    λ e. subst (λ (c : Command). Says (word_of event) c) (sym e) (inl (refl, refl)),
  );
  polite_has_one = polite_alone;
  events = λ event count least most. inr (decimal count, refl, counted count least most);
  polite = λ count least most. (decimal count, refl, counted count least most);
  least = few;
  least_polite = λ line count says. (says.2.least, says.2.most);
  seven = λ event. inr (codes "0000001", refl, one);
  eight = eight_digits;
}

pub counts_make : CountsMake
counts_make event count w steps is = record {
  number = sym (length-map steps (λ (step : Event × Outcome). step.0)) ∙ (ap length is ∙ length-replicate count event);
  same = each steps count is;
}
  where
    each : (steps : Steps) (count : ℕ) → map (λ (step : Event × Outcome). step.0) steps ≡ replicate count event
        → AllByRecursion (λ (step : Event × Outcome). step.0 ≡ event) steps
    each [] count e = tt
    each (step ∷ steps) zero e = let no : ⊥ = cc in absurd no
    each (step ∷ steps) (suc count) e = (
      let same : step.0 ≡ event = cc in same,
      each steps count (let rest : map (λ (step : Event
          × Outcome). step.0) steps ≡ replicate count event = cc in rest),
    )

-- ---- lines

utf8_nothing : IsUtf8 []
utf8_nothing = IsUtf8-from_ascii [] (λ i. omega arith)

no_feed : HasNoFeed []
no_feed k less = absurd (omega (arith, less))

no_other : (first : ℕ) (rest : List ℕ) → IsLineOf (first ∷ rest) None → codes "#" ≡ first ∷ []
no_other first rest (utf8, inl is) = let no : ⊥ = cc in absurd no
no_other first rest (utf8, inr (comment, is)) = let same : first ≡ 35 = cc in ap (λ (x : ℕ). x ∷ []) (sym same)

pub lines_mean : LinesMean
lines_mean = record {
  nothing = record { lines = []; last = []; text_is = refl; say = (None, [], no_feed, (utf8_nothing, inl refl), refl, refl) };
  alone = λ line said one is. record { lines = []; last = line; text_is = refl; say = (said, [], one, is, refl, refl) };
  more = λ line text said commands one is script. record {
    lines = line ∷ script.lines;
    last = script.last;
    text_is = ap (λ (t : List ℕ). line ++ 10 ∷ t) script.text_is ∙ sym (append_assoc line (10 ∷ ended script.lines) script.last);
    say = (said, commands, one, is, script.say, refl);
  };
  empty = (utf8_nothing, inl refl);
  comment = λ rest utf8. (utf8, inr (rest, refl));
  no_others = no_other;
  first_bad = λ line rest one bad. record {
    before = [];
    commands = [];
    line = line;
    rest = 10 ∷ rest;
    text_is = refl;
    say = refl;
    one = one;
    ends = inr (rest, refl);
    bad = bad;
    number_is = refl;
  };
  last_bad = λ line one bad. record {
    before = [];
    commands = [];
    line = line;
    rest = [];
    text_is = sym (append-nil line);
    say = refl;
    one = one;
    ends = inl refl;
    bad = bad;
    number_is = refl;
  };
  next_bad = λ line text said number one is bad. record {
    before = line ∷ bad.before;
    commands = said_before said bad.commands;
    line = bad.line;
    rest = bad.rest;
    text_is = ap (λ (t : List ℕ). line ++ 10 ∷ t) bad.text_is ∙ sym (append_assoc line (10 ∷ ended bad.before) (bad.line ++ bad.rest));
    say = (said, bad.commands, one, is, bad.say, refl);
    one = bad.one;
    ends = bad.ends;
    bad = bad.bad;
    number_is = let counted = bad.number_is in omega (arith, counted);
  };
  from_one = λ text number bad. let counted = bad.number_is in omega (arith, counted);
}
