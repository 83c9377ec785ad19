-- The lemmas of `page_files`.
mod CodedRows
mod DecodedPages
mod DecodedRows
mod PageEnds
mod LaterPages
mod TurnedPages
mod Sources
mod FirstImage
mod Furthest
mod RepairedLines
mod Mended
mod MissingEol
mod LikelyWidths
mod PagesFound
mod LineEnds
mod MarkEnds
pub mod NoticeLines
mod RefusedRows
mod RepairsMean
mod RepairsT6
mod Identifying
mod IdentifyLaws
mod OwnWidths
mod AgreedWidths
mod RowsAlone
