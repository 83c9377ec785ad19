-- The rules of the referee in words.
use Rattle.std.specs.Prelude.{ℕ, Bool, true, false, List, codes}
use Rattle.referee.specs.declared.rule.Rule.{Rule}
use Rattle.referee.specs.declared.rule.Rule.TheVariants.{WrongSide, Ended, NotOffered, NotTrained, NoBurst, BadLength, OutOfOrder, NotAskedFor}
use Rattle.referee.specs.declared.rule.Rule.TheVariants.{NewData, RcpCount, Uncounted, WrongCount, NotSentAgain, NotRepeated, WrongCounts, NoCommand}
use Rattle.referee.specs.declared.rule.Rule.TheVariants.{NotWhole, NotCome, AsksAgain, AsksNothing, BadMap, NotBusy}

-- A rule can be read otherwise in T.30: to break it is no fault for sure. Some callers count in a PPS only the frames that they sent again.
abbrev pub is_reading : Rule → Bool
is_reading WrongSide = false
is_reading Ended = false
is_reading NotOffered = false
is_reading NotTrained = false
is_reading NoBurst = false
is_reading BadLength = false
is_reading OutOfOrder = false
is_reading NotAskedFor = false
is_reading NewData = false
is_reading RcpCount = false
is_reading Uncounted = false
is_reading WrongCount = true
is_reading NotSentAgain = false
is_reading NotRepeated = false
is_reading WrongCounts = false
is_reading NoCommand = false
is_reading NotWhole = false
is_reading NotCome = false
is_reading AsksAgain = false
is_reading AsksNothing = false
is_reading BadMap = false
is_reading NotBusy = false

-- the name of each rule
abbrev pub rule_name : Rule → List ℕ
rule_name WrongSide = codes "wrong-side"
rule_name Ended = codes "ended"
rule_name NotOffered = codes "not-offered"
rule_name NotTrained = codes "not-trained"
rule_name NoBurst = codes "no-burst"
rule_name BadLength = codes "bad-length"
rule_name OutOfOrder = codes "out-of-order"
rule_name NotAskedFor = codes "not-asked-for"
rule_name NewData = codes "new-data"
rule_name RcpCount = codes "rcp-count"
rule_name Uncounted = codes "uncounted"
rule_name WrongCount = codes "wrong-count"
rule_name NotSentAgain = codes "not-sent-again"
rule_name NotRepeated = codes "not-repeated"
rule_name WrongCounts = codes "wrong-counts"
rule_name NoCommand = codes "no-command"
rule_name NotWhole = codes "not-whole"
rule_name NotCome = codes "not-come"
rule_name AsksAgain = codes "asks-again"
rule_name AsksNothing = codes "asks-nothing"
rule_name BadMap = codes "bad-map"
rule_name NotBusy = codes "not-busy"

-- what is wrong with a frame that breaks the rule
abbrev pub rule_words : Rule → List ℕ
rule_words WrongSide = codes "it is a signal of the other station"
rule_words Ended = codes "its station has said DCN before"
rule_words NotOffered = codes "no DIS before it offers what it asks for"
rule_words NotTrained = codes "the caller's last frame before it is no DCS"
rule_words NoBurst = codes "no CFR, PPR or MCF lets this burst begin"
rule_words BadLength = codes "it has no octet of data, or more than were agreed"
rule_words OutOfOrder = codes "its number isn't above that of the frame before it"
rule_words NotAskedFor = codes "the PPR doesn't ask for it"
rule_words NewData = codes "it was sent before with other data"
rule_words RcpCount = codes "three RCPs end a burst, no more and no fewer"
rule_words Uncounted = codes "it counts a frame that was never sent"
rule_words WrongCount = codes "it doesn't count a frame of the block that was sent"
rule_words NotSentAgain = codes "a frame that the PPR asks for wasn't sent again"
rule_words NotRepeated = codes "it differs from the PPS that it repeats"
rule_words WrongCounts = codes "its page and block aren't those that come now"
rule_words NoCommand = codes "the caller's last frame before it is no PPS or RR"
rule_words NotWhole = codes "a frame of the block can't have come"
rule_words NotCome = codes "it doesn't ask for a frame that can't have come"
rule_words AsksAgain = codes "it asks for a frame that had come"
rule_words AsksNothing = codes "it asks for no frame of the block"
rule_words BadMap = codes "its bit for a number beyond the block is 0"
rule_words NotBusy = codes "no RNR was said since the last PPS and the last FCD"

-- why that is a rule, with the section of T.30
abbrev pub rule_reason : Rule → List ℕ
rule_reason WrongSide =
    codes "T.30, 5.3.6.1: DIS, CFR, FTT, MCF, PPR and RNR are the answerer's; DCS, FCD, RCP, PPS and RR are the caller's"
rule_reason Ended = codes "T.30, 5.3.6.1: a station that says DCN leaves the call; the other one may go on, since a DCN can be lost"
rule_reason NotOffered =
    codes "T.30, 5.3.6.2: a DCS asks for what a DIS offers; any DIS before it will do, as a log doesn't say which was heard"
rule_reason NotTrained = codes "T.30, 5.3.6.1: CFR and FTT answer a DCS, and MCF, PPR and RNR a PPS or an RR; who hears none says nothing"
rule_reason NoBurst = codes "T.30, A.4: a caller that hears no CFR, PPR or MCF repeats its command, and sends no frames of a block"
rule_reason BadLength = codes "T.30, A.3: a frame of a block has 1 to 256 octets of data, or 1 to 64 if the last DCS says so"
rule_reason OutOfOrder = codes "T.30, A.3: the frames of a burst are sent in the order of their numbers, each once"
rule_reason NotAskedFor =
    codes "T.30, A.4.4: after PPR the caller sends the frames again that it asks for, and no others, before the next PPS"
rule_reason NewData = codes "T.30, A.3: a frame has the same data when it is sent again, since the answerer may have kept what came first"
rule_reason RcpCount = codes "T.30, A.3: three RCPs follow the frames of a burst, so that its end is known if one or two are lost"
rule_reason Uncounted = codes "T.30, A.4.3: the last octet of PPS counts the frames of the block, which were all sent before it"
rule_reason WrongCount =
    codes "T.30, A.4.3: the last octet of PPS counts the frames of the block; some callers count those of the last burst"
rule_reason NotSentAgain =
    codes "T.30, A.4.4: after PPR the caller sends the frames again that it asks for, and no others, before the next PPS"
rule_reason NotRepeated =
    codes "T.30, A.4.3: a PPS said again has the same end, page and block, and the same last frame if none was sent since"
rule_reason WrongCounts =
    codes "T.30, A.4.3: pages and blocks count from 0; after NULL the block is one more, otherwise the page is, with block 0"
rule_reason NoCommand = codes "T.30, 5.3.6.1: CFR and FTT answer a DCS, and MCF, PPR and RNR a PPS or an RR; who hears none says nothing"
rule_reason NotWhole = codes "T.30, A.4.4: a frame is told as come that was never sent, or not since a PPR asked for it"
rule_reason NotCome = codes "T.30, A.4.4: a frame is told as come that was never sent, or not since a PPR asked for it"
rule_reason AsksAgain = codes "T.30, A.4.4: a bit of 1 in PPR says that a frame hasn't come; by a PPR or an MCF before it had"
rule_reason AsksNothing = codes "T.30, A.4.4: a block of which no frame is missing is confirmed by MCF"
rule_reason BadMap = codes "T.30, A.4.4: PPR has 256 bits, and those after the last frame of the block are 1"
rule_reason NotBusy =
    codes "T.30, A.4: RR asks an answerer that has said RNR whether it is ready; without an RNR the caller repeats its PPS"
