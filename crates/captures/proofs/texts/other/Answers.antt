-- What the check asks of `other`.
use Rattle.std.proofs.Common.{rules, ◌≡◌, ◌-◌, ◌^◌, false, subst, ap, ◌∙◌, Option, Some, ℕ, List, [], ◌∷◌, codes}
use Rattle.std.specs.Prelude.{option_map}
use Rattle.std.specs.Fmt.{DisplaysOnOk, format_spec, option_append, padded_integral, styled_digits_output}
use Rattle.hex.specs.Hex.{encode_lower}
use Rattle.captures.proofs.HexText.{octet_text}
use Rattle.captures.proofs.texts.other.Goals as goal

pub returns : goal.returns
returns g c =
    let octet = c.args.octet in
    let spec = format_spec 32 0 4 2 (2 ^ 64 - 1) in
    let laid : styled_digits_output c.in_radix.result c.laid_out.result ≡ styled_digits_output c.in_radix.result spec =
    ap (λ s. styled_digits_output c.in_radix.result s) c.laid_out.ensures in
    let digits : styled_digits_output c.in_radix.result spec ≡ Some (encode_lower (octet ∷ [])) =
    ap (λ (o : Option (List ℕ)). option_map (padded_integral spec false []) o) c.in_radix.ensures
    ∙ ap Some (octet_text octet (search rules)) in
    subst (λ o. DisplaysOnOk {W = g.row.W.Denot} g.W.Write.write_str_gives c.args.f.now c.write.result
    (option_append (Some (codes "other ")) o) c.write.new.self) (laid ∙ digits) c.write.ensures.writes
