-- The numbers of the statuses that aren't faults of rows, pages, images or codes.
use Rattle.std.specs.Prelude.{ℕ}

-- the call is done
abbrev pub ok : ℕ
ok = 0

-- memory was refused
abbrev pub no_memory : ℕ
no_memory = 9

-- a call can't have a page of this width
abbrev pub not_callable : ℕ
not_callable = 26

-- two stations have no way to send pages
abbrev pub not_compatible : ℕ
not_compatible = 28

-- the handle has nothing
abbrev pub empty_handle : ℕ
empty_handle = 100

-- the handle has something of another kind
abbrev pub other_handle : ℕ
other_handle = 101

-- the handle that is to be filled has something
abbrev pub full_handle : ℕ
full_handle = 102

-- the buffer is too small
abbrev pub no_room : ℕ
no_room = 103

-- a number that isn't one of those allowed
abbrev pub bad_choice : ℕ
bad_choice = 104

-- a length that isn't allowed
abbrev pub bad_length : ℕ
bad_length = 105

-- nothing is there: no such row, no frame that waits, no page to hand out
abbrev pub nothing_there : ℕ
nothing_there = 106

-- memory was refused after octets of the line were taken
abbrev pub frame_lost : ℕ
frame_lost = 108
