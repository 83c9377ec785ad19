-- What the check asks of `answer_reached`.
use Rattle.std.proofs.Common.{rules, inl}
use Rattle.page_files.proofs.later_pages.answer_reached.Goals as goal

pub returns-in_ok-write_all-in-Ok-clause-answered : goal.returns-in_ok-write_all-in-Ok-clause-answered
returns-in_ok-write_all-in-Ok-clause-answered c = inl record {
  lines = c.in-Ok.decoded.told.items;
  answers = c.in-Ok.ensures.answered;
  told_is = search rules;
}
