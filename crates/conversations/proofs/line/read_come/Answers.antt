-- What the check asks of `read_come`.
use Rattle.std.proofs.Common.{◌≡◌, ◌≢◌, ◌++◌, ℕ, List, codes, rules}
use Rattle.conversations.proofs.FrameWords.{come_in_frames, in_bits, none_come_in_frames}
use Rattle.conversations.proofs.line.read_come.Goals as goal

pub returns-in_default : goal.returns-in_default
returns-in_default c =
    let other : (rest : List ℕ) → c.args.text.now ≢ codes "v21 frames" ++ rest = search rules in
    in_bits c.read_burst.result c.args.text.now other c.read_burst.ensures

pub returns-in-Ok : goal.returns-in-Ok
returns-in-Ok c =
    let begins : c.args.text.now ≡ codes "v21 frames" ++ c.in-Some.contents.now = search rules in
    come_in_frames c.args.text.now c.in-Some.contents.now c.in-Ok.content.octets.items c.in-Ok.content.count begins c.in-Ok.ensures

pub returns-in-Err : goal.returns-in-Err
returns-in-Err c = λ no.
    let begins : c.args.text.now ≡ codes "v21 frames" ++ c.in-Some.contents.now = search rules in
    none_come_in_frames c.args.text.now c.in-Some.contents.now begins (c.in-Err.ensures no)
