-- The formats that `identify` names, by the first octets of their files as their own standards have them; and the widths that it tries.
use Rattle.std.specs.Prelude.{◌≡◌, ◌+◌, ◌*◌, ◌/◌, ◌++◌, ◌∷◌, [], ℕ, List, Some, map, codes}
use Rattle.page_files.specs.Identified.{format_of, tried_widths}

-- octets are named so
abbrev IsNamed : List ℕ → List ℕ → Type 0
IsNamed octets name = format_of octets ≡ Some name

-- The law: each format's first octets, and its name.
pub record FormatsByOctets : Type 0 where
  pub tiff_ii : IsNamed (0x49 ∷ 0x49 ∷ 0x2A ∷ 0x00 ∷ []) (codes "TIFF")
  pub tiff_mm : IsNamed (0x4D ∷ 0x4D ∷ 0x00 ∷ 0x2A ∷ []) (codes "TIFF")
  pub big_ii : IsNamed (0x49 ∷ 0x49 ∷ 0x2B ∷ 0x00 ∷ []) (codes "BigTIFF")
  pub big_mm : IsNamed (0x4D ∷ 0x4D ∷ 0x00 ∷ 0x2B ∷ []) (codes "BigTIFF")
  pub pdf : IsNamed (0x25 ∷ 0x50 ∷ 0x44 ∷ 0x46 ∷ 0x2D ∷ []) (codes "PDF")
  pub postscript : IsNamed (0x25 ∷ 0x21 ∷ 0x50 ∷ 0x53 ∷ []) (codes "PostScript")
  pub png : IsNamed (0x89 ∷ 0x50 ∷ 0x4E ∷ 0x47 ∷ 0x0D ∷ 0x0A ∷ 0x1A ∷ 0x0A ∷ []) (codes "PNG")
  pub p1 : IsNamed (0x50 ∷ 0x31 ∷ []) (codes "plain PBM")
  pub p2 : IsNamed (0x50 ∷ 0x32 ∷ []) (codes "plain PGM")
  pub p3 : IsNamed (0x50 ∷ 0x33 ∷ []) (codes "plain PPM")
  pub p4 : IsNamed (0x50 ∷ 0x34 ∷ []) (codes "PBM")
  pub p5 : IsNamed (0x50 ∷ 0x35 ∷ []) (codes "PGM")
  pub p6 : IsNamed (0x50 ∷ 0x36 ∷ []) (codes "PPM")
  pub p7 : IsNamed (0x50 ∷ 0x37 ∷ []) (codes "PAM")
  pub jpeg : IsNamed (0xFF ∷ 0xD8 ∷ 0xFF ∷ []) (codes "JPEG")
  pub gif : IsNamed (0x47 ∷ 0x49 ∷ 0x46 ∷ 0x38 ∷ []) (codes "GIF")
  pub sff : IsNamed (0x53 ∷ 0x66 ∷ 0x66 ∷ 0x66 ∷ []) (codes "SFF")
  pub dcx : IsNamed (0xB1 ∷ 0x68 ∷ 0xDE ∷ 0x3A ∷ []) (codes "DCX")
  pub gzip : IsNamed (0x1F ∷ 0x8B ∷ 0x08 ∷ []) (codes "gzip")
  pub zip : IsNamed (0x50 ∷ 0x4B ∷ 0x03 ∷ 0x04 ∷ []) (codes "ZIP")
  pub jbig : IsNamed (0x00 ∷ 0x00 ∷ 0x01 ∷ 0x00 ∷ 0x00 ∷ 0x00 ∷ []) (codes "JBIG")

-- the name of octets of a line's flags
abbrev line_name : List ℕ
line_name = codes "bits of a line (HDLC flags)"

-- The law: three octets of flags, 01111110 each, from each of their eight bits on.
pub record FlagsByOctets : Type 0 where
  pub from_0 : IsNamed (0x7E ∷ 0x7E ∷ 0x7E ∷ []) line_name
  pub from_1 : IsNamed (0x3F ∷ 0x3F ∷ 0x3F ∷ []) line_name
  pub from_2 : IsNamed (0x9F ∷ 0x9F ∷ 0x9F ∷ []) line_name
  pub from_3 : IsNamed (0xCF ∷ 0xCF ∷ 0xCF ∷ []) line_name
  pub from_4 : IsNamed (0xE7 ∷ 0xE7 ∷ 0xE7 ∷ []) line_name
  pub from_5 : IsNamed (0xF3 ∷ 0xF3 ∷ 0xF3 ∷ []) line_name
  pub from_6 : IsNamed (0xF9 ∷ 0xF9 ∷ 0xF9 ∷ []) line_name
  pub from_7 : IsNamed (0xFC ∷ 0xFC ∷ 0xFC ∷ []) line_name

-- the pixels of a row of so many millimetres, which T.30's table 2 and T.4 give: 8 for each, and 8 more
abbrev in_millimetres : ℕ → ℕ
in_millimetres millimetres = 8 * millimetres + 8

-- The law: the widths that are tried are those of 215, 255, 303, 151 and 107 mm; and at 200 dots an inch those of Letter, 8.5 inches, and
-- of A4, 210 mm (an inch is 25.4 mm), to the nearest dot.
abbrev pub WidthsMean : Type 0
WidthsMean = tried_widths
    ≡ map in_millimetres (215 ∷ 255 ∷ 303 ∷ 151 ∷ 107 ∷ []) ++ (17 * 100 ∷ (2100 * 200 + 127) / 254 ∷ [])
