-- What the program prints (document 01, "The printed account"): item by item, and the whole text as the text of the steps in order.
-- Assumes nothing.
use Rattle.std.specs.Prelude.{ℕ, zero, suc, ◌+◌, ◌%◌, ◌^◌, Bool, true, false, cond, not, List, [], ◌++◌, Ok, Err, length, take, drop, nat_eq}
use Rattle.fields.specs.Choice.{◌when◌otherwise◌}
use Rattle.items.specs.declared.Key.{Key}
use Rattle.items.specs.declared.Item.TheVariants.{Begins, Frame}
use Rattle.items.specs.Items.{Found, item_of, size_of}
use Rattle.reception.specs.Answers.{Taken}
use Rattle.reception.specs.Hearing.{Kept, Outcome, empty_kept, hear_frame}
use Rattle.telling.specs.Account.{account_text, refused_line, bad_line, most_account}

-- "a sequence of capacity 4,096"
abbrev pub places : ℕ
places = 4096

-- the most octets that one item prints: the longest text is an account of that many places
abbrev pub most_text : ℕ
most_text = most_account places

-- items and octets are counted in 64 bits
abbrev pub counted : ℕ → ℕ
counted n = n % 2 ^ 64

-- what is there between two items: whether a sequence was begun, its record, and how many items and octets went before
pub record Between : Type 0 where
  pub begun : Bool
  pub kept : Kept
  pub place : ℕ
  pub offset : ℕ

-- what one item does: the text that it prints, whether it stops the program, and what is there after it
pub record Step : Type 0 where
  pub text : List ℕ
  pub stops : Bool
  pub next : Between

-- "begins a sequence … and prints the one before"; "The end of input prints the last account"; "Empty input prints nothing"
abbrev pub account_before : Between → List ℕ
account_before b = cond b.begun (account_text b.kept) []

-- after an item of so many octets
abbrev pub after : Between → ℕ → Kept → Between
after b size k = record { begun = true; kept = k; place = counted (b.place + 1); offset = counted (b.offset + size) }

-- "prints "bad input" and the item's offset in octets from 0, and stops without an account"
abbrev pub bad_step : Between → Step
bad_step b = record { text = bad_line b.offset; stops = true; next = b }

-- "a refused one prints "refused", its place among all items from 1, its number", and both checks of 4 and 7
abbrev pub answer_text : ℕ → Taken → List ℕ
answer_text place (Ok u) = []
answer_text place (Err r) = refused_line place r

-- a frame heard into the record that was begun, of the record's own bearer and period
abbrev pub frame_step : Between → ℕ → Outcome → Step
frame_step b size t = record { text = answer_text (counted (b.place + 1)) t.answer; stops = false; next = after b size t.kept }

-- what hearing answers and leaves: a frame item carries neither bearer nor period
abbrev pub heard_in : Between → List ℕ → Outcome
heard_in b frame = hear_frame b.kept b.kept.head.bearer b.kept.head.period frame

-- "begins a sequence of capacity 4,096 and prints the one before"
abbrev pub key_step : Between → Key → Step
key_step b k = record { text = account_before b; stops = false; next = after b 14 (empty_kept k.bearer k.period k.stamp places) }

-- an item by what it is; "frame before a key" is bad input
unfoldable pub item_step : Between → List ℕ → Found → Step
item_step b input (Ok (Begins k)) = key_step b k
item_step b input (Ok (Frame n)) = bad_step b when not b.begun otherwise frame_step b (4 + n) (heard_in b (take n (drop 4 input)))
item_step b input (Err e) = bad_step b

-- the item in front of the input
abbrev pub step_of : Between → List ℕ → Step
step_of b input = item_step b input (item_of input)

-- the octets that it takes; one that stops the program takes none
abbrev pub used_by : Between → List ℕ → ℕ
used_by b input = 0 when (step_of b input).stops otherwise size_of (item_of input)

-- before the first item; "Empty input prints nothing"
abbrev pub nothing_yet : Between
nothing_yet = record { begun = false; kept = empty_kept 0 0 0 places; place = 0; offset = 0 }

-- what is printed in so many steps and at the end: the text of each step, until one stops; where the input ends, the last account
unfoldable pub printed : ℕ → Between → List ℕ → List ℕ
printed zero b input = account_before b
printed (suc steps) b input =
    account_before b when nat_eq (length input) 0 otherwise
    ((step_of b input).text ++ cond (step_of b input).stops [] (printed steps (step_of b input).next (drop (size_of (item_of input)) input)))

-- what is printed of the input from here on: an item has at least four octets, so as many steps as octets are enough
abbrev pub text_from : Between → List ℕ → List ℕ
text_from b input = printed (length input) b input

-- all that the program prints
abbrev pub program_text : List ℕ → List ℕ
program_text input = text_from nothing_yet input
