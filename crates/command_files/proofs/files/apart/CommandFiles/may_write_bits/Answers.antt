-- What the check asks of `may_write_bits`.
use Rattle.std.proofs.Common.{◌∷◌, [], OnOk, codes, option_map, subst, sym}
use Rattle.command_files.specs.Apart.{AddsFiles, bits_in, octets_in}
use Rattle.command_files.proofs.ApartLemmas.{adds_on}
use Rattle.command_files.proofs.files.apart.CommandFiles.may_write_bits.Goals as goal

pub returns : goal.returns
returns c =
    let folder = c.in-Some.folder.now in
    let old = c.args.self.now.files.items in
    let new = c.writes_bits-2.new.self.files.items in
    subst (λ named. OnOk c.writes_bits-2.result (AddsFiles (bits_in (option_map (λ folder. folder.now) named)) old new))
    (sym c.in-Some.is)
    (adds_on c.writes_bits-2.result (octets_in folder (codes "to-answerer.bits") ∷ []) (octets_in folder (codes "to-caller.bits") ∷ [])
    old c.writes_bits.new.self.files.items new c.in_ok-writes_bits.ensures c.writes_bits-2.ensures)
