-- The names of carriers and codes, as programs and options have them: a carrier as `faxtool station` names it, a code as `--code` does.
use Rattle.std.specs.Prelude.{List, ℕ, codes}
use Rattle.raster.specs.declared.coding.Coding.{Coding}
use Rattle.raster.specs.declared.coding.Coding.TheVariants.{OneDim, T6}
use Rattle.signals.specs.declared.params.Speed.{Speed}
use Rattle.signals.specs.declared.params.Speed.TheVariants.{V27At2400, V27At4800, V29At7200, V29At9600, V17At7200, V17At9600, V17At12000}
use Rattle.signals.specs.declared.params.Speed.TheVariants.{V17At14400}

-- the carrier of pages at a speed: its modulation (ITU-T V.27 ter, V.29 or V.17) and its bits a second
abbrev pub carrier_name : Speed → List ℕ
carrier_name V27At2400 = codes "v27ter-2400"
carrier_name V27At4800 = codes "v27ter-4800"
carrier_name V29At7200 = codes "v29-7200"
carrier_name V29At9600 = codes "v29-9600"
carrier_name V17At7200 = codes "v17-7200"
carrier_name V17At9600 = codes "v17-9600"
carrier_name V17At12000 = codes "v17-12000"
carrier_name V17At14400 = codes "v17-14400"

-- a code of pages: modified Huffman (ITU-T T.4) or modified modified READ (T.6)
abbrev pub code_name : Coding → List ℕ
code_name OneDim = codes "mh"
code_name T6 = codes "mmr"
