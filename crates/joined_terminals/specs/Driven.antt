-- Two conversations whose lines a driver joins: a caller whose call can be stopped, and an answerer with limits.
use Rattle.std.specs.Prelude.{Bool, true, false, ◌++◌, List, []}
use Rattle.conversations.specs.Conversations.{ConversationFields}
use Rattle.raster.specs.Pages.{PagePixels}
use Rattle.stations.specs.Inputs.{PlainItem}
use Rattle.stations.specs.Limiting.{LimitedFields}
use Rattle.stations.specs.Stopping.{StoppableCallerFields}
use Rattle.joined_terminals.specs.Joining.{Joined}
use Rattle.joined_terminals.specs.Octets.{Terminals}

-- Both conversations, the line of the call between them, and the store of the answerer.
pub record Driven : Type 0 where
  pub caller : ConversationFields StoppableCallerFields
  pub answerer : ConversationFields LimitedFields
  -- the items on their way to each, in the order in which they were sent
  pub to_answerer : List PlainItem
  pub to_caller : List PlainItem
  -- whether bursts of the turn that a station keeps still get onto the line: the other station hasn't begun to send since that turn
  pub caller_clear : Bool
  pub answerer_clear : Bool
  -- the pages that were stored, in order
  pub stored : List PagePixels
  -- the page that the store refused, and those after it: they are dropped
  pub unkept : List PagePixels

-- their terminals and the line between them; the pages that left the answerer are those that were stored, or refused after these
abbrev pub joined : Driven → Joined
joined d =
    record {
      caller = d.caller.terminal.speaking;
      answerer = d.answerer.terminal.speaking;
      to_answerer = d.to_answerer;
      to_caller = d.to_caller;
      caller_clear = d.caller_clear;
      answerer_clear = d.answerer_clear;
      pages = d.stored ++ d.unkept;
    }

-- with what the deframer of each keeps of the line
abbrev pub terminals : Driven → Terminals
terminals d =
    record {
      joined = joined d;
      caller_framing = d.caller.terminal.framing;
      answerer_framing = d.answerer.terminal.framing;
    }

-- What the caller's turn does to the line, by whether it is silence, as `caller_begins` says: what is on its way to the caller is lost, and
-- what the answerer's turn has left is void.
abbrev pub caller_speaks : Bool → Driven → Driven
caller_speaks true d = d
caller_speaks false d = record d { to_caller = []; caller_clear = true; answerer_clear = false }

-- what the answerer's turn does to the line, by whether it is silence
abbrev pub answerer_speaks : Bool → Driven → Driven
answerer_speaks true d = d
answerer_speaks false d = record d { to_answerer = []; answerer_clear = true; caller_clear = false }
