-- What a picture draws of an event, as texts: the caller's line is at 250, and the answerer's at 530.
use Rattle.std.specs.Prelude.{◌≡◌, ◌∷◌, [], List, None, Some, true, false, map, codes}
use Rattle.call_pictures.specs.CapturedCalls.{after_side, event_from, is_answer}
use Rattle.call_pictures.specs.DrawnFields.{code_name, drawn_fields, end_name, fine_name, speed_name}
use Rattle.call_pictures.specs.Ladders.{item_after}
use Rattle.call_pictures.specs.Pictures.{arrow_text, base_text, fate_text, gap_text, joint_text, many_text, mark_text, numbers_text, own_text}
use Rattle.call_pictures.specs.Pictures.{refused_text, rounds_word, shape_of, times_text}
use Rattle.call_pictures.specs.declared.captured_call.Before.TheVariants.{Answer, Command, Nothing}
use Rattle.line_sim.specs.declared.event.Event.TheVariants as event
use Rattle.line_sim.specs.declared.event.Fields.TheVariants as field
use Rattle.line_sim.specs.declared.event.Kind.{Kind}
use Rattle.line_sim.specs.declared.event.Kind.TheVariants as kind
use Rattle.raster.specs.declared.coding.Coding.TheVariants.{OneDim, T6}
use Rattle.signals.specs.declared.params.Speed.TheVariants.{V27At2400, V27At4800, V29At7200, V29At9600, V17At7200, V17At9600}
use Rattle.signals.specs.declared.params.Speed.TheVariants.{V17At12000, V17At14400}
use Rattle.signals.specs.declared.signal.PageEnd.TheVariants.{Eom, Eop, Mps, Null}
use Rattle.signals.specs.declared.signal.Side.TheVariants.{Answerer, Caller}

-- The law: arrows, from the sender's line to the other one, or to a cross on the way; and the marks on a station's own line.
pub record ShapesByOctets : Type 0 where
  pub to_answerer : arrow_text event.DeliverToAnswerer true ≡ codes "M250 0h280m-9-4l9 4l-9 4"
  pub many_to_answerer : arrow_text event.DeliverToAnswerer false ≡ codes "M250-4h266v-4l14 8l-14 8v-4h-266z"
  pub to_caller : arrow_text event.DeliverToCaller true ≡ codes "M530 0h-280m9-4l-9 4l9 4"
  pub many_to_caller : arrow_text event.DeliverToCaller false ≡ codes "M530-4h-266v-4l-14 8l14 8v-4h266z"
  pub lost_to_answerer : arrow_text event.LoseToAnswerer true ≡ codes "M250 0h200m-6-6l12 12m0-12l-12 12"
  pub many_lost_to_answerer : arrow_text event.LoseToAnswerer false ≡ codes "M250-4h194v8h-194zm194-2l12 12m0-12l-12 12"
  pub lost_to_caller : arrow_text event.LoseToCaller true ≡ codes "M530 0h-200m6-6l-12 12m0-12l12 12"
  pub many_lost_to_caller : arrow_text event.LoseToCaller false ≡ codes "M530-4h-194v8h194zm-194-2l-12 12m0-12l12 12"
  pub spoiled : arrow_text event.Spoil true ≡ codes "M250 0h115l10-8l10 16l10-16l10 16l10-8h20"
  pub caller_wait : mark_text event.CallerTimeout ≡ codes "M244-7h12l-12 14h12z"
  pub caller_t5 : mark_text event.CallerT5 ≡ codes "M244-7h12l-12 14h12z"
  pub t1 : mark_text event.AnswererT1 ≡ codes "M524-7h12l-12 14h12z"
  pub t2 : mark_text event.AnswererT2 ≡ codes "M524-7h12l-12 14h12z"
  pub busy : mark_text (event.Busy true) ≡ codes "M524-6h12v12h-12zl12 12m0-12l-12 12"
  pub ready : mark_text (event.Busy false) ≡ codes "M524-6h12v12h-12z"
  pub with_item : shape_of (Some kind.Dis) event.DeliverToCaller true ≡ arrow_text event.DeliverToCaller true
  pub without : shape_of None event.AnswererT2 true ≡ mark_text event.AnswererT2

-- The law: the words beside a row, by octets.
pub record WordsByOctets : Type 0 where
  pub lost : fate_text event.LoseToAnswerer ≡ codes " lost"
  pub lost_back : fate_text event.LoseToCaller ≡ codes " lost"
  pub spoiled : fate_text event.Spoil ≡ codes " spoiled"
  pub nothing : gap_text event.DeliverToAnswerer ≡ codes "nothing under way"
  pub nothing_back : gap_text event.DeliverToCaller ≡ codes "nothing under way"
  pub none_to_lose : gap_text event.LoseToAnswerer ≡ codes "nothing to lose"
  pub none_to_lose_back : gap_text event.LoseToCaller ≡ codes "nothing to lose"
  pub no_check : gap_text event.Spoil ≡ codes "no check to spoil"
  pub time_out : own_text event.CallerTimeout ≡ codes "time-out"
  pub caller_t5 : own_text event.CallerT5 ≡ codes "T5 is over"
  pub t1 : own_text event.AnswererT1 ≡ codes "T1 is over"
  pub t2 : own_text event.AnswererT2 ≡ codes "T2 is over"
  pub busy : own_text (event.Busy true) ≡ codes "busy"
  pub ready : own_text (event.Busy false) ≡ codes "ready"
  pub joint : joint_text event.CallerTimeout ≡ codes ", "
  pub refused : refused_text true ≡ codes " (memory refused)"
  pub caller_side : base_text event.DeliverToCaller ≡ codes "<text class=\"e\" x=\"238\" y=\"4\">"
  pub caller_side_lost : base_text event.LoseToCaller ≡ codes "<text class=\"e\" x=\"238\" y=\"4\">"
  pub answerer_side : base_text event.DeliverToAnswerer ≡ codes "<text x=\"542\" y=\"4\">"
  pub frames : times_text (Some (kind.Fcd 5)) 9 ≡ codes "9 frames from "
  pub times : times_text (Some kind.Rr) 3 ≡ codes "3 times "
  pub numbers : numbers_text 4 12 ≡ codes "4 to 12"
  -- 4
  pub one_number : numbers_text 4 4 ≡ 0x34 ∷ []
  pub rounds : rounds_word 20 ≡ codes "20 rounds like this"
  pub came : fate_text event.DeliverToAnswerer ≡ []
  pub once : times_text (Some kind.Rr) 1 ≡ []
  pub one_round : rounds_word 1 ≡ []
  pub granted : refused_text false ≡ []
  pub no_joint : joint_text event.DeliverToCaller ≡ []

-- The law: what is drawn of a DCS and a PPS, by octets.
pub record FieldsByOctets : Type 0 where
  pub v27_2400 : speed_name V27At2400 ≡ codes " V.27 ter 2400"
  pub v27_4800 : speed_name V27At4800 ≡ codes " V.27 ter 4800"
  pub v29_7200 : speed_name V29At7200 ≡ codes " V.29 7200"
  pub v29_9600 : speed_name V29At9600 ≡ codes " V.29 9600"
  pub v17_7200 : speed_name V17At7200 ≡ codes " V.17 7200"
  pub v17_9600 : speed_name V17At9600 ≡ codes " V.17 9600"
  pub v17_12000 : speed_name V17At12000 ≡ codes " V.17 12000"
  pub v17_14400 : speed_name V17At14400 ≡ codes " V.17 14400"
  pub t4 : code_name OneDim ≡ codes " T.4 "
  pub t6 : code_name T6 ≡ codes " T.6 "
  pub fine : fine_name true ≡ codes " fine"
  pub null : end_name Null ≡ codes "-NULL"
  pub mps : end_name Mps ≡ codes "-MPS"
  pub eom : end_name Eom ≡ codes "-EOM"
  pub eop : end_name Eop ≡ codes "-EOP"
  pub standard : fine_name false ≡ []
  -- blocks of one page are drawn alike
  pub block : drawn_fields (field.Pps Mps 3 2 255) ≡ field.Pps Mps 0 0 0

-- frames of an answerer, and others
abbrev answers : List Kind
answers = kind.Dis ∷ kind.Cfr ∷ kind.Ftt ∷ kind.Mcf ∷ kind.Ppr ∷ kind.Rnr ∷ kind.Dcn ∷ []

-- The law: which of these frames is drawn as the answer to what is drawn last; a frame that a station sends comes to the other one.
pub record AnswersByRows : Type 0 where
  pub to_nothing : map (is_answer Nothing) answers ≡ true ∷ false ∷ false ∷ false ∷ false ∷ false ∷ false ∷ []
  pub to_answer : map (is_answer Answer) answers ≡ true ∷ false ∷ false ∷ false ∷ false ∷ false ∷ false ∷ []
  pub to_dcs : map (is_answer (Command kind.Dcs)) answers ≡ false ∷ true ∷ true ∷ false ∷ false ∷ false ∷ false ∷ []
  pub to_pps : map (is_answer (Command kind.Pps)) answers ≡ false ∷ false ∷ false ∷ true ∷ true ∷ true ∷ false ∷ []
  pub to_rr : map (is_answer (Command kind.Rr)) answers ≡ false ∷ false ∷ false ∷ true ∷ true ∷ true ∷ false ∷ []
  pub to_dcn : map (is_answer (Command kind.Dcn)) answers ≡ false ∷ false ∷ false ∷ false ∷ false ∷ false ∷ false ∷ []
  pub of_caller : after_side Caller kind.Rr ≡ Command kind.Rr
  pub of_answerer : after_side Answerer kind.Mcf ≡ Answer
  pub from_caller : event_from Caller ≡ event.DeliverToAnswerer
  pub from_answerer : event_from Answerer ≡ event.DeliverToCaller
  pub next_frame : item_after 4 (Some (kind.Fcd 3)) ≡ Some (kind.Fcd 7)
  pub same : item_after 4 (Some kind.Rcp) ≡ Some kind.Rcp
