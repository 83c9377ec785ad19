-- What is reported of files and of their pages.
use Rattle.std.proofs.Common.{Bor, Global, ℕ, ◌≡◌, ◌∙◌, ◌++◌, ◌+◌, [], List, Some, None, ap, inl, inr, subst, arith, length}
use Rattle.std.specs.Prelude.{Bool, ◌&&◌, Option, String, codes}
use Rattle.std.proofs.lemmas.Str.Pattern.{IsSplitOnceResult, split_once_first}
use Rattle.page_files.proofs.NoticeLines.{first_line, no_line}
use Rattle.page_files.specs.Answers.{AnswersDecode}
use Rattle.commands.specs.Each.{ArePagesTo}
use Rattle.commands.specs.Laws.{OnePageAsDecode}
use Rattle.commands.specs.Pages.{IsPageReport, IsReadSo, IsSilent, page_lines, with_front}
use Rattle.commands.specs.declared.decode.each.pages.PageReport.{PageReport}
use Rattle.page_files.specs.declared.options.DecodeOptions.{DecodeOptions}
use Rattle.page_files.specs.declared.options.PageForm.{PageForm}

-- what the first line shows after the front, and then the others
pub front_more : (front text : List ℕ) (line rest : Bor (List ℕ)) → IsSplitOnceResult 10 text (Some (line, rest))
    → with_front front text ≡ (front ++ (line.now ++ codes "\n")) ++ with_front front rest.now
front_more front text line rest split =
    let first = split_once_first 10 text (Some (line, rest)) split (omega arith) in
    first_line (λ part. front ++ (part ++ codes "\n")) text line.now rest.now first.0 first.1 first.2

-- no line is left
pub front_end : (front text : List ℕ) → IsSplitOnceResult 10 text None → with_front front text ≡ []
front_end front text split =
    no_line (λ part. front ++ (part ++ codes "\n")) text (split_once_first 10 text None split (omega arith))

-- the law of a file of one page
pub one_page : OnePageAsDecode
one_page options asked form octets report ends none answered =
    let start : ArePagesTo options form octets 0 ends.last ends.others ends.lines ends.complete =
    subst (λ (n : ℕ). ArePagesTo options form octets n ends.last ends.others ends.lines ends.complete) none ends.pages in (
      answered.image,
      ends.page.told.items,
      answered.answer,
      λ text writes. subst (λ (o : List ℕ). AnswersDecode form asked o text ends.page.told.items answered.answer) start.0 (record {
        read_to = answered.read_to;
        rows = length answered.image.rows;
        lines = answered.lines;
        gives = answered.gives text writes;
        tells = answered.tells;
      }),
      ends.told_is ∙ (ap (λ (l : List ℕ). l ++ page_lines (ends.before + 1) ends.page.told.items) start.2
          ∙ ap (λ (n : ℕ). page_lines (n + 1) ends.page.told.items) none),
      ends.complete_is ∙ (ap (λ (b : Bool). b && ends.page.is_complete) start.3 ∙ answered.complete_is),
    )

-- a report with this name of the page's image
abbrev named : PageReport → Option (String Global) → PageReport
named report name = record report { facts = record report.facts { out = name } }

silent_named : (report : PageReport) (name : Option (String Global)) → IsSilent report → IsSilent (named report name)
silent_named report name silent = record {
  nothing_told = silent.nothing_told;
  lacks = silent.lacks;
  no_rows = silent.no_rows;
  no_bits = silent.no_bits;
  end_unknown = silent.end_unknown;
}

-- a page that is read so is so whatever the name of its image is
read_so_named : (options : DecodeOptions) (form : PageForm) (octets : List ℕ) (report : PageReport) (name : Option (String Global))
    → IsReadSo options form octets report → IsReadSo options form octets (named report name)
read_so_named options form octets report name (inl answered) = inl (record {
  image = answered.image;
  read_to = answered.read_to;
  lines = answered.lines;
  answer = answered.answer;
  gives = answered.gives;
  tells = answered.tells;
  end_is = answered.end_is;
  rows_are = answered.rows_are;
  bits_are = answered.bits_are;
  lacks_end = answered.lacks_end;
  complete_is = answered.complete_is;
})
read_so_named options form octets report name (inr (refused, is, cut)) = inr (refused, is, (cut.0, silent_named report name cut.1))

-- what is reported of a page is so whatever the name of its image is
pub report_named : (options : DecodeOptions) (form : PageForm) (octets : List ℕ) (report : PageReport) (name : Option (String Global))
    → IsPageReport options form octets report → IsPageReport options form octets (named report name)
report_named options form octets report name (inl read) = inl (read_so_named _ form octets report name read)
report_named options form octets report name (inr (inl (salvages, repairs, why, read))) =
    inr (inl (salvages, repairs, why, read_so_named _ form octets report name read))
report_named options form octets report name (inr (inr (fault, ends, silent))) =
    inr (inr (fault, ends, silent_named report name silent))
