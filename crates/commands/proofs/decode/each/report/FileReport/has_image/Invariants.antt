-- What holds in the loop of `has_image`: no page so far has an image, so that those that are left decide.
use Rattle.std.proofs.Common.{◌≡◌, drop}
use Rattle.commands.specs.PageFacts.{has_images}
use Rattle.commands.proofs.decode.each.report.FileReport.has_image.Given as goal

abbrev pub invariant-loop-page : goal.invariant-loop-page
invariant-loop-page l = has_images (drop l.page-index l.self.pages.items) ≡ has_images l.self.pages.items
