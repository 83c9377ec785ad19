use Rattle.signals.proofs.FieldTexts.{speeds-have-texts, modems-have-texts, widths-have-texts}
use Rattle.signals.proofs.laws.fields_have_texts.Goals as goal

pub returns : goal.returns
returns c = record { speeds = speeds-have-texts; modems = modems-have-texts; widths = widths-have-texts }
