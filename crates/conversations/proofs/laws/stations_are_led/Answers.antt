use Rattle.conversations.proofs.Led.{answerers_are_led, callers_are_led}
use Rattle.conversations.proofs.laws.stations_are_led.Goals as goal

pub returns-clause-answerer : goal.returns-clause-answerer
returns-clause-answerer c = answerers_are_led

pub returns-clause-caller : goal.returns-clause-caller
returns-clause-caller c = callers_are_led
