-- What the check asks of `add_to`.
use Rattle.std.proofs.Common.{◌++◌, ◌∷◌, [], codes, option_map}
use Rattle.command_files.specs.Apart.{bits_in, may_be_written, printed}
use Rattle.command_files.proofs.ApartLemmas.{adds_on}
use Rattle.commands.proofs.call.CallFiles.add_to.Goals as goal

pub returns : goal.returns
returns c =
    let files = c.args.self in
    let out = may_be_written (codes "--out") (option_map (λ name. name.now) files.out) in
    let diagram = may_be_written (codes "--diagram") (option_map (λ name. name.now) files.diagram) in
    let bits = bits_in (option_map (λ name. name.now) files.bits) in
    let start = c.args.files.now.files.items in
    let second = c.may_write.new.self.files.items in
    let third = c.may_write-2.new.self.files.items in
    let fourth = c.may_write_bits.new.self.files.items in
    let last = c.prints.new.self.files.items in
    adds_on c.prints.result out (diagram ++ (bits ++ printed ∷ [])) start second last c.in_ok-may_write.ensures
    (adds_on c.prints.result diagram (bits ++ printed ∷ []) second third last c.in_ok-may_write-2.ensures
    (adds_on c.prints.result bits (printed ∷ []) third fourth last c.in_ok-may_write_bits.ensures c.prints.ensures))
