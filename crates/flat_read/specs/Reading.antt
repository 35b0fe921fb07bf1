-- What reading a flatbuffer's bytes gives: the value, or the first place where the bytes end too
-- early. All numbers are little-endian.
use Rattle.std.specs.Prelude.{ℕ, ◌+◌, ◌-◌, ◌*◌, ◌^◌, ◌==◌, nat_lt, nat_le, if◌then◌else◌, List}
use Rattle.std.specs.Prelude.{length, take, drop, Option, Some, None, Result, Ok, Err}
use Rattle.byteorder.specs.Endian.{little_number}
use Rattle.flat_read.specs.declared.FlatFault.{FlatFault}

-- The fault that the bytes end before `place + need`, or, with `need` 0, that they hold no vtable
-- for the table at `place`.
abbrev pub fault_at : {A : Type 0} → ℕ → ℕ → Result A FlatFault
fault_at place need = Err (record { place = place; need = need })

-- The answer where the bytes do not end before `place + need`, else the fault.
abbrev pub within : {A : Type 0} → List ℕ → ℕ → ℕ → Result A FlatFault → Result A FlatFault
within bytes place need answer = if nat_le (place + need) (length bytes) then answer
    else fault_at place need

-- The number in the `width` bytes from a place on.
abbrev pub number_from : List ℕ → ℕ → ℕ → ℕ
number_from bytes place width = little_number width (drop place bytes)

-- A number that is read.
abbrev pub number_at : List ℕ → ℕ → ℕ → Result ℕ FlatFault
number_at bytes place width = within bytes place width (Ok (number_from bytes place width))

-- Where a reference leads: its four bytes say how far its target is past it.
abbrev pub target_at : List ℕ → ℕ → Result ℕ FlatFault
target_at bytes place = within bytes place 4 (Ok (place + number_from bytes place 4))

-- A vector's first place and the number of its elements, which its length word tells and which lie
-- in the bytes as a whole.
abbrev pub vector_at : List ℕ → ℕ → ℕ → Result (ℕ × ℕ) FlatFault
vector_at bytes place width =
    within bytes place 4 (within bytes (place + 4) (number_from bytes place 4 * width)
    (Ok (place + 4, number_from bytes place 4)))

-- A string's bytes, as many as its length word tells.
abbrev pub text_at : List ℕ → ℕ → Result (List ℕ) FlatFault
text_at bytes place =
    within bytes place 4 (within bytes (place + 4) (number_from bytes place 4)
    (Ok (take (number_from bytes place 4) (drop (place + 4) bytes))))

-- A vtable's place is its table's minus the table's first word, a signed number of 32 bits; none
-- where that is before the bytes.
abbrev pub vtable_place : List ℕ → ℕ → Option ℕ
vtable_place bytes table =
    let back : ℕ = number_from bytes table 4 in
    if nat_le (2 ^ 31) back then Some (table + (2 ^ 32 - back)) else if nat_le back table
    then Some (table - back) else None

-- A vtable's entry for a field: how far the field is past its table, and 0 where the entry does not
-- end within the vtable's size.
abbrev pub entry_from : List ℕ → ℕ → ℕ → ℕ
entry_from bytes vtable index =
    if nat_le (6 + 2 * index) (number_from bytes vtable 2)
    then number_from bytes (vtable + 4 + 2 * index) 2 else 0

-- A field's place, none where its entry is 0.
abbrev pub entry_place : ℕ → ℕ → Option ℕ
entry_place table entry = if entry == 0 then None else Some (table + entry)

-- A field by a vtable, which has at least its two sizes and lies in the bytes as a whole.
abbrev pub field_by : List ℕ → ℕ → ℕ → Option ℕ → Result (Option ℕ) FlatFault
field_by bytes table index None = fault_at table 0
field_by bytes table index (Some vtable) =
    within bytes vtable 2
    (if nat_lt (number_from bytes vtable 2) 4 then fault_at table 0
    else within bytes vtable (number_from bytes vtable 2)
    (Ok (entry_place table (entry_from bytes vtable index))))

-- The place of a table's field, none where the field is absent.
abbrev pub field_at : List ℕ → ℕ → ℕ → Result (Option ℕ) FlatFault
field_at bytes table index = within bytes table 4
    (field_by bytes table index (vtable_place bytes table))
