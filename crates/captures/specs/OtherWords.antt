-- What frames that are no signals of these stations say, in words: their names, and the digits of those that have some.
use Rattle.std.specs.Prelude.{ℕ, ◌+◌, ◌-◌, ◌++◌, ◌∷◌, ◌&&◌, ◌||◌, [], Bool, not, List, codes, cond, get_or, length, nat_eq, nat_lt}
use Rattle.captures.specs.Below.{some_below, texts_below}
use Rattle.faults.specs.Explanations.{words_in}

-- The names of frames by their facsimile control fields as octets, the first bit that is sent the least significant (T.30, 5.3.6.1 and A.4), in
-- six groups; the first bit of most is that of the station. First those by which a station tells what it is, or asks for a page.
abbrev pub asking_names : List (ℕ × List ℕ)
asking_names = (32, codes "NSF") ∷ (33, codes "NSC") ∷ (64, codes "CSI") ∷ (65, codes "CIG") ∷ (129, codes "DTC")
    ∷ (161, codes "SEP") ∷ (193, codes "PWD") ∷ (97, codes "PSA") ∷ (225, codes "CIA") ∷ (17, codes "ISP") ∷ []

-- Commands before a page. DCS is here, and PPS below: a station reads only those that it can send by.
abbrev pub command_names : List (ℕ × List ℕ)
command_names = (34, codes "NSS") ∷ (35, codes "NSS") ∷ (66, codes "TSI") ∷ (67, codes "TSI") ∷ (162, codes "SID")
    ∷ (163, codes "SID") ∷ (194, codes "SUB") ∷ (195, codes "SUB") ∷ (98, codes "TSA") ∷ (99, codes "TSA") ∷ (226, codes "IRA")
    ∷ (227, codes "IRA") ∷ (18, codes "CTC") ∷ (19, codes "CTC") ∷ (130, codes "DCS") ∷ (131, codes "DCS") ∷ []

-- responses to these, and what controls the line
abbrev pub line_names : List (ℕ × List ℕ)
line_names = (196, codes "CTR") ∷ (197, codes "CTR") ∷ (36, codes "CSA") ∷ (37, codes "CSA") ∷ (26, codes "CRP") ∷ (27, codes "CRP")
    ∷ (234, codes "TNR") ∷ (235, codes "TNR") ∷ (106, codes "TR") ∷ (107, codes "TR") ∷ (202, codes "FNV") ∷ (203, codes "FNV") ∷ []

-- commands after a page
abbrev pub after_names : List (ℕ × List ℕ)
after_names = (142, codes "EOM") ∷ (143, codes "EOM") ∷ (78, codes "MPS") ∷ (79, codes "MPS") ∷ (46, codes "EOP")
    ∷ (47, codes "EOP") ∷ (158, codes "PRI-EOM") ∷ (159, codes "PRI-EOM") ∷ (94, codes "PRI-MPS") ∷ (95, codes "PRI-MPS")
    ∷ (62, codes "PRI-EOP") ∷ (63, codes "PRI-EOP") ∷ (206, codes "EOR") ∷ (207, codes "EOR") ∷ (30, codes "EOS")
    ∷ (31, codes "EOS") ∷ (190, codes "PPS") ∷ (191, codes "PPS") ∷ []

-- responses to these
abbrev pub response_names : List (ℕ × List ℕ)
response_names = (204, codes "RTP") ∷ (205, codes "RTP") ∷ (76, codes "RTN") ∷ (77, codes "RTN") ∷ (172, codes "PIP")
    ∷ (173, codes "PIP") ∷ (44, codes "PIN") ∷ (45, codes "PIN") ∷ (108, codes "PID") ∷ (109, codes "PID") ∷ (28, codes "ERR")
    ∷ (29, codes "ERR") ∷ (252, codes "FDM") ∷ (253, codes "FDM") ∷ []

-- frames of a call with security (annexes G and H)
abbrev pub security_names : List (ℕ × List ℕ)
security_names = (160, codes "DES") ∷ (147, codes "DEC") ∷ (83, codes "DER") ∷ (154, codes "DNK") ∷ (155, codes "DNK")
    ∷ (74, codes "RK") ∷ (75, codes "TK") ∷ []

-- the name of a frame of that group; none of others
abbrev pub asking_name : ℕ → List ℕ
asking_name octet = words_in asking_names [] octet

-- the name of a frame of that group; none of others
abbrev pub command_name : ℕ → List ℕ
command_name octet = words_in command_names [] octet

-- the name of a frame of that group; none of others
abbrev pub line_name : ℕ → List ℕ
line_name octet = words_in line_names [] octet

-- the name of a frame of that group; none of others
abbrev pub after_name : ℕ → List ℕ
after_name octet = words_in after_names [] octet

-- the name of a frame of that group; none of others
abbrev pub response_name : ℕ → List ℕ
response_name octet = words_in response_names [] octet

-- the name of a frame of that group; none of others
abbrev pub security_name : ℕ → List ℕ
security_name octet = words_in security_names [] octet

-- the first of two names, unless it is none
abbrev pub either_name : List ℕ → List ℕ → List ℕ
either_name [] other = other
either_name name other = name

-- the name of a frame; none of one that has no name
abbrev pub other_name : ℕ → List ℕ
other_name octet = either_name (either_name (asking_name octet) (command_name octet))
    (either_name (either_name (line_name octet) (security_name octet)) (either_name (after_name octet) (response_name octet)))

-- the information field is a number or a name by the signs of a telephone: CSI, CIG, TSI, SEP, SID, PWD and SUB
abbrev pub has_signs : ℕ → Bool
has_signs octet = nat_eq octet 64 || (nat_eq octet 65 || (nat_eq octet 66 || (nat_eq octet 67 || (nat_eq octet 161 || (nat_eq octet 162
    || (nat_eq octet 163 || (nat_eq octet 193 || (nat_eq octet 194 || nat_eq octet 195))))))))

-- a sign of a telephone: space, #, * and + and the digits (T.30, table 3)
abbrev pub is_sign : ℕ → Bool
is_sign octet = nat_eq octet 32 || (nat_eq octet 35 || (nat_eq octet 42 || (nat_eq octet 43 || (nat_lt 47 octet && nat_lt octet 58))))

-- a sign as it is, and ? for any other octet
abbrev pub sign_text : ℕ → List ℕ
sign_text octet = cond (is_sign octet) (octet ∷ []) (codes "?")

-- the octet of a place, from the left: the last sign is sent first
abbrev pub sign_at : List ℕ → ℕ → ℕ
sign_at fields at = get_or fields (length fields - (at + 1)) 32

-- no space is there
abbrev pub is_shown : List ℕ → ℕ → Bool
is_shown fields at = not (nat_eq (sign_at fields at) 32)

-- the sign of a place, where it is no space or one has come before
abbrev pub sign_after : Bool → List ℕ → ℕ → List ℕ
sign_after begun fields at = cond (is_shown fields at || begun) (sign_text (sign_at fields at)) []

-- the sign of a place, by the places before it
abbrev pub sign_here : List ℕ → ℕ → List ℕ
sign_here fields at = sign_after (some_below (is_shown fields) at) fields at

-- the signs from the left, without the spaces before the first one
abbrev pub signs_text : List ℕ → List ℕ
signs_text fields = texts_below (sign_here fields) (length fields)

-- what follows the name
abbrev pub signs_words : ℕ → List ℕ → List ℕ
signs_words octet fields = cond (has_signs octet) (codes ": " ++ signs_text fields) []

-- the line of a frame with this name, and none without
abbrev pub name_line : List ℕ → ℕ → List ℕ → List ℕ
name_line name octet fields =
    cond (nat_eq (length name) 0) [] (codes "    " ++ (name ++ (signs_words octet fields ++ 10 ∷ [])))

-- the line of words of a frame that is no signal of these stations, by its control field and its information field
abbrev pub other_words : ℕ → List ℕ → List ℕ
other_words octet fields = name_line (other_name octet) octet fields
