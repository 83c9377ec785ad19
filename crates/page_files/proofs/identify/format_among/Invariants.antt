-- What holds in the loop of `format_among`.
use Rattle.std.proofs.Common.{◌≡◌, drop, map}
use Rattle.page_files.specs.Identified.{format_among}
use Rattle.page_files.proofs.identify.format_among.Given as goal

abbrev pub invariant-loop-format : goal.invariant-loop-format
invariant-loop-format l =
    format_among (map (λ format. (format.0.now, format.1.now)) (drop l.format-index l.formats)) l.octets
    ≡ format_among (map (λ format. (format.0.now, format.1.now)) l.formats) l.octets
