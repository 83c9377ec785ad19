-- How a call of a script and images ends, over readers that may tell their bytes.
use Rattle.std.proofs.Common.{◌≡◌, ◌∙◌, ◌⊎◌, ◌++◌, [], ℕ, Bool, List, Option, Some, None, ap, inl, inr, subst}
use Rattle.std.specs.Prelude.{IfSome}
use Rattle.raster.specs.Pbm.{AreImages}
use Rattle.stations.specs.CallerFields.{AreCallable}
use Rattle.stations.specs.Layers.{Document}
use Rattle.line_sim.specs.declared.live.Ending.{Ending}
use Rattle.calls.specs.Calls.{IsAtLine, IsBadScript, LeavesCall, LeavesScript, RefusesCall, RunsCall}
use Rattle.faults.specs.Faults.{IsOutside}
use Rattle.calls.specs.Scripts.{IsScript}
use Rattle.calls.specs.SentBits.{Written}
use Rattle.faults.specs.declared.fault.ToolFault.{ToolFault}
use Rattle.faults.specs.declared.fault.ToolFault.TheVariants.{AtBit, AtLine, No}
use Rattle.calls.specs.declared.options.CallOptions.{CallOptions}
use Rattle.calls.specs.declared.script.Command.{Command}
use Rattle.calls.proofs.FollowedScripts.{bad_is_none}

pub leaves_call : (options : CallOptions) (script : List ℕ) (images : Option (List ℕ)) (before after : Written) (document : Document)
    (ending : Ending) → IfSome images (λ octets. AreImages options.fine octets document) →
    LeavesScript options document script before after ending →
    IfSome images (λ octets. LeavesCall options script octets before after ending)
leaves_call options script None before after document ending read told = tt
leaves_call options script (Some images) before after document ending read (commands, said, (told, left)) =
    (record { commands = commands; said = said; document = document; read = read; told = told }, left)

pub runs_call : (options : CallOptions) (script images : Option (List ℕ)) (before after : Written) (ending : Ending)
    → IfSome script (λ said. IfSome images (λ octets. LeavesCall options said octets before after ending))
    → IfSome script (λ said. IfSome images (λ octets. RunsCall options said octets before after ending.pages.items))
runs_call options None images before after ending left = tt
runs_call options (Some script) None before after ending left = tt
runs_call options (Some script) (Some images) before after ending left = left.0

-- why a call by a script was refused, where the reader tells its octets
abbrev pub Refuses : Bool → List ℕ → Option (List ℕ) → ToolFault → Type 0
Refuses fine script images fault = IfSome images (λ octets. RefusesCall fine script octets fault)

pub bad_call : (fine : Bool) (script : List ℕ) (images : Option (List ℕ)) (fault : ToolFault) → IsBadScript script fault →
    Refuses fine script images fault
bad_call fine script None fault bad = tt
bad_call fine script (Some images) fault bad = inr (inl bad)

pub refused_call : (fine : Bool) (script : List ℕ) (images : Option (List ℕ)) (document : Document) (fault : ToolFault) →
    (commands : List Command) × IsScript script commands → IfSome images (λ octets. AreImages fine octets document) →
    IsOutside fault ⊎ (IsBadScript script fault ⊎ (¬ AreCallable document × (fault ≡ No 26))) → Refuses fine script images fault
refused_call fine script None document fault said read why = tt
refused_call fine script (Some images) document fault said read (inl outside) = inl outside
refused_call fine script (Some images) document fault said read (inr (inl bad)) = inr (inl bad)
refused_call fine script (Some images) document fault said read (inr (inr wide)) = inr (inr (inr (said, document, read, wide.0, wide.1)))

-- a script that was checked isn't refused at a line
pub not_at_line : {X : Type 0} (script : List ℕ) (document : Document) (fault : ToolFault) →
    (commands : List Command) × IsScript script commands →
    IsOutside fault ⊎ (IsBadScript script fault ⊎ (¬ AreCallable document × (fault ≡ No 26))) → IsAtLine fault → X
not_at_line script document (No number) said why at = absurd at
not_at_line script document (AtBit number place) said why at = absurd at
not_at_line script document (AtLine line) said (inl (inl eight)) at = absurd (cc)
not_at_line script document (AtLine line) said (inl (inr nine)) at = absurd (cc)
not_at_line script document (AtLine line) said (inr (inl bad)) at = bad_is_none script (AtLine line) said.0 bad said.1
not_at_line script document (AtLine line) said (inr (inr wide)) at = let no = wide.1 in absurd (cc)

pub unless_bad : {X : Type 0} (script : List ℕ) (fault : ToolFault) → (commands : List Command) × IsScript script commands →
    IsOutside fault ⊎ (IsBadScript script fault ⊎ X) → IsOutside fault ⊎ X
unless_bad script fault said (inl outside) = inl outside
unless_bad script fault said (inr (inl bad)) = bad_is_none script fault said.0 bad said.1
unless_bad script fault said (inr (inr same)) = inr same

-- what holds of a text holds of what a reader gave, if that is known
pub of_known : (P : List ℕ → Type 0) (known : Option (List ℕ)) (empty kept text : List ℕ) → IfSome known (λ said. kept ≡ empty ++ said) →
    empty ≡ [] → text ≡ kept → P text → IfSome known P
of_known P None empty kept text given none same p = tt
of_known P (Some said) empty kept text given none same p = subst P (same ∙ (given ∙ ap (λ l. l ++ said) none)) p
