-- The lines of a script, each checked or followed as it is read.
use Rattle.std.proofs.Common.{◌≡◌, ◌+◌, ◌⊎◌, ℕ, List, [], ◌∷◌, ◌++◌, Option, Some, None, inl, inr, refl}
use Rattle.faults.specs.Faults.{IsOutside}
use Rattle.faults.specs.declared.fault.ToolFault.{ToolFault}
use Rattle.faults.specs.declared.fault.ToolFault.TheVariants.{AtLine, No}
use Rattle.line_sim.specs.Line.{World}
use Rattle.line_sim.specs.Represents.{Shows}
use Rattle.line_sim.specs.declared.call.Call.{Call}
use Rattle.calls.specs.Calls.{IsBadScript, TellsCommand, TellsCommands, TellsLine, TellsScript}
use Rattle.calls.specs.Scripts.{HasNoFeed, IsBadLine, IsLineOf, IsScript, said_before}
use Rattle.calls.specs.SentBits.{Written}
use Rattle.calls.specs.declared.script.Command.{Command}
use Rattle.calls.proofs.CallSteps.{both_followed, none_followed, one_followed}
use Rattle.calls.proofs.OneScript.{refused_for_memory}
use Rattle.calls.proofs.ScriptLines.{ReadSoFar, all_read, bad_last, bad_next, next_read, none_read}

-- ---- a line that isn't one

pub script_bad_next : (text rest line after : List ℕ) (commands : List Command) (number : ℕ) (fault : ToolFault) →
    ReadSoFar text rest commands number → HasNoFeed line → rest ≡ line ++ 10 ∷ after → IsBadLine line number fault → IsBadScript text fault
script_bad_next text rest line after commands number fault so_far one is (at, bad) =
    (number, at, bad_next text rest line after commands number so_far one is bad)

pub script_bad_last : (text last : List ℕ) (commands : List Command) (number : ℕ) (fault : ToolFault) →
    ReadSoFar text last commands number → HasNoFeed last → IsBadLine last number fault → IsBadScript text fault
script_bad_last text last commands number fault so_far one (at, bad) =
    (number, at, bad_last text last commands number so_far one bad)

-- a text isn't both
pub bad_is_none : {X : Type 0} (text : List ℕ) (fault : ToolFault) (commands : List Command) → IsBadScript text fault →
    IsScript text commands → X
bad_is_none text fault commands (line, at, bad) is =
    let nine : ◌≡◌ {A = ToolFault} (AtLine line) (No 9) = refused_for_memory text (AtLine line) bad commands is in absurd (cc)

-- ---- checked

-- the lines so far say commands
abbrev pub IsReadSoFar : List ℕ → List ℕ → ℕ → Type 0
IsReadSoFar text rest number = (commands : List Command) × ReadSoFar text rest commands number

pub none_checked : (text : List ℕ) → IsReadSoFar text text 1
none_checked text = ([], none_read text)

pub next_checked : (text rest line after : List ℕ) (said : Option Command) (number next : ℕ) → IsReadSoFar text rest number →
    HasNoFeed line → rest ≡ line ++ 10 ∷ after → IsLineOf line said → next ≡ number + 1 → IsReadSoFar text after next
next_checked text rest line after said number next (commands, so_far) one is says more = (
  commands ++ said_before said [],
  next_read text rest line after commands (commands ++ said_before said []) number next so_far one is (said, says, refl) more,
)

pub all_checked : (text last : List ℕ) (said : Option Command) (number : ℕ) → IsReadSoFar text last number → HasNoFeed last →
    IsLineOf last said → (commands : List Command) × IsScript text commands
all_checked text last said number (commands, so_far) one says = (
  commands ++ said_before said [],
  all_read text last commands (commands ++ said_before said []) number so_far one (said, says, refl),
)

-- ---- followed

pub nothing_told : (line : List ℕ) (v : Call) (first : ℕ) (at : Written) → IsLineOf line None → TellsLine line v v first first at at
nothing_told line v first at says = (None, says, λ w shows. none_followed v w first at shows)

pub command_told : (line : List ℕ) (command : Command) (old new : Call) (first next : ℕ) (before after : Written) →
    IsLineOf line (Some command) → ((w : World) → Shows old w → TellsCommand command w new first next before after) →
    TellsLine line old new first next before after
command_told line command old new first next before after says told =
    (Some command, says, λ w shows. one_followed command new w first next before after (told w shows))

-- the lines so far say commands, and a call made their steps
pub record FollowedSoFar (text rest : List ℕ) (at : ℕ) (old now : Call) (first next : ℕ) (before after : Written) : Type 0 where
  pub commands : List Command
  pub read : ReadSoFar text rest commands at
  pub told : (w : World) → Shows old w → TellsCommands commands w now first next before after

pub none_so_far : (text : List ℕ) (v : Call) (first : ℕ) (at : Written) → FollowedSoFar text text 1 v v first first at at
none_so_far text v first at = record { commands = []; read = none_read text; told = λ w shows. none_followed v w first at shows }

pub line_followed : (text rest line after : List ℕ) (at beyond : ℕ) (old now new : Call) (first mid next : ℕ) (before here later : Written)
    → FollowedSoFar text rest at old now first mid before here → HasNoFeed line → rest ≡ line ++ 10 ∷ after →
    TellsLine line now new mid next here later → beyond ≡ at + 1 → FollowedSoFar text after beyond old new first next before later
line_followed text rest line after at beyond old now new first mid next before here later so_far one is (said, says, told) more = record {
  commands = so_far.commands ++ said_before said [];
  read = next_read text rest line after so_far.commands (so_far.commands ++ said_before said []) at beyond so_far.read one is
      (said, says, refl) more;
  told = λ w shows.
      both_followed so_far.commands (said_before said []) now new w first mid next before here later (so_far.told w shows) told;
}

pub last_followed : (text last : List ℕ) (at : ℕ) (old now new : Call) (first mid next : ℕ) (before here later : Written) →
    FollowedSoFar text last at old now first mid before here → HasNoFeed last → TellsLine last now new mid next here later →
    TellsScript text old new first next before later
last_followed text last at old now new first mid next before here later so_far one (said, says, told) = (
  so_far.commands ++ said_before said [],
  all_read text last so_far.commands (so_far.commands ++ said_before said []) at so_far.read one (said, says, refl),
  λ w shows. both_followed so_far.commands (said_before said []) now new w first mid next before here later (so_far.told w shows) told,
)

-- a line wasn't followed
pub next_stopped : (text rest line after : List ℕ) (at : ℕ) (old now : Call) (first next : ℕ) (before here : Written) (fault : ToolFault) →
    FollowedSoFar text rest at old now first next before here → HasNoFeed line → rest ≡ line ++ 10 ∷ after →
    IsOutside fault ⊎ IsBadLine line at fault → IsOutside fault ⊎ IsBadScript text fault
next_stopped text rest line after at old now first next before here fault so_far one is (inl outside) = inl outside
next_stopped text rest line after at old now first next before here fault so_far one is (inr bad) =
    inr (script_bad_next text rest line after so_far.commands at fault so_far.read one is bad)

pub last_stopped : (text last : List ℕ) (at : ℕ) (old now : Call) (first next : ℕ) (before here : Written) (fault : ToolFault) →
    FollowedSoFar text last at old now first next before here → HasNoFeed last →
    IsOutside fault ⊎ IsBadLine last at fault → IsOutside fault ⊎ IsBadScript text fault
last_stopped text last at old now first next before here fault so_far one (inl outside) = inl outside
last_stopped text last at old now first next before here fault so_far one (inr bad) =
    inr (script_bad_last text last so_far.commands at fault so_far.read one bad)
