-- What the account program reads (document 01, "The printed account"): the item in front of a row of octets. Assumes nothing.
use Rattle.std.specs.Prelude.{ℕ, ◌+◌, not, List, Result, Ok, Err, ltb, eqb, length}
use Rattle.fields.specs.Choice.{◌when◌otherwise◌}
use Rattle.fields.specs.Numbers.{le}
use Rattle.units.specs.Limits.{last_stamp}
use Rattle.items.specs.declared.Key.{Key}
use Rattle.items.specs.declared.Item.{Item}
use Rattle.items.specs.declared.NoItem.{NoItem}
use Rattle.items.specs.declared.Item.TheVariants.{Begins, Frame}
use Rattle.items.specs.declared.NoItem.TheVariants.{Wrong, Cut}

-- "body length, kind (two octets each, little-endian), body"
abbrev pub body_length : List ℕ → ℕ
body_length s = le 2 s 0

-- "Kind 1", "Kind 2"
abbrev pub kind : List ℕ → ℕ
kind s = le 2 s 2

-- "bearer, period, stamp (4, 4, 2, little-endian)"
unfoldable pub key_of : List ℕ → Key
key_of s = record { bearer = le 4 s 4; period = le 4 s 8; stamp = le 2 s 12 }

-- "body above 8,192"
abbrev pub most_body : ℕ
most_body = 8192

-- the longest item: its length and its kind, and the longest body
abbrev pub longest_item : ℕ
longest_item = 4 + most_body

-- an item, or why there is none
abbrev pub Found : Type 0
Found = Result Item NoItem

-- "Kind 1, ten octets: bearer, period, stamp (4, 4, 2, little-endian) begins a sequence"; "other kind or length", "A cut item" and
-- "stamp above 59,999" do not
unfoldable pub beginning : List ℕ → Found
beginning s =
    Err Wrong when not (eqb (body_length s) 10) otherwise
    Err Cut when ltb (length s) 14 otherwise
    Err Wrong when ltb last_stamp (le 2 s 12) otherwise
    Ok (Begins (key_of s))

-- "Kind 2 is a frame"; "body above 8,192" and "A cut item" are not
unfoldable pub framed : List ℕ → Found
framed s =
    Err Wrong when ltb most_body (body_length s) otherwise
    Err Cut when ltb (length s) (4 + body_length s) otherwise
    Ok (Frame (body_length s))

-- "A cut item", "other kind": without its length and its kind an item is cut, and there are two kinds
unfoldable pub item_of : List ℕ → Found
item_of s =
    Err Cut when ltb (length s) 4 otherwise
    beginning s when eqb (kind s) 1 otherwise
    framed s when eqb (kind s) 2 otherwise
    Err Wrong

-- how many octets of input an item is; one that stops the program has none to pass over
unfoldable pub size_of : Found → ℕ
size_of (Ok (Begins k)) = 14
size_of (Ok (Frame n)) = 4 + n
size_of (Err Wrong) = 0
size_of (Err Cut) = 0
