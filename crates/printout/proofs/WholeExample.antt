-- Document 01's example of the printed account, whole: the input of its two items prints exactly its text. Assumes nothing.
use Rattle.std.proofs.Common.{◌≡◌, ℕ, ◌≤◌, cond, List, [], ◌++◌, length, drop, ap, ◌∙◌, arith}
use Rattle.items.specs.declared.Key.{Key}
use Rattle.items.specs.Items.{item_of, size_of}
use Rattle.items.proofs.Example.{first_item, second_item, first_begins, second_frame}
use Rattle.reception.specs.Hearing.{Kept, empty_kept, keep_closing, takes}
use Rattle.telling.proofs.PrintedExample.{printed, account_printed, C_heard}
use Rattle.printout.specs.Printed.{places, Between, Step, nothing_yet, after, key_step, frame_step, item_step, step_of, text_from, program_text}
use Rattle.printout.proofs.WholeText.{text_step, text_end}

-- a step that is known, and what it leaves
known_step : (b : Between) (s : List ℕ) (t : Step) (n : ℕ) → 1 ≤ length s → step_of b s ≡ t → size_of (item_of s) ≡ n
    → text_from b s ≡ t.text ++ cond t.stops [] (text_from t.next (drop n s))
known_step b s t n l e z =
    text_step b s l
    ∙ ap (λ (x : Step). x.text ++ cond x.stops [] (text_from x.next (drop (size_of (item_of s)) s))) e
    ∙ ap (λ (k : ℕ). t.text ++ cond t.stops [] (text_from t.next (drop k s))) z

abbrev key : Key
key = record { bearer = 7; period = 3; stamp = 0 }

-- what is there after the key, and after frame C
abbrev begun : Between
begun = after nothing_yet 14 (empty_kept 7 3 0 places)

abbrev closed : Kept
closed = keep_closing (empty_kept 7 3 0 places) 1 1

first_step : step_of nothing_yet (first_item ++ second_item) ≡ key_step nothing_yet key
unfolding item_step
first_step = ap (item_step nothing_yet (first_item ++ second_item)) (first_begins second_item)

second_step : step_of begun second_item ≡ frame_step begun 22 (takes closed)
unfolding item_step
second_step = ap (item_step begun second_item) (second_frame []) ∙ ap (frame_step begun 22) (C_heard places (omega arith) (omega arith))

first_size : size_of (item_of (first_item ++ second_item)) ≡ 14
unfolding size_of
first_size = ap size_of (first_begins second_item)

second_size : size_of (item_of second_item) ≡ 22
unfolding size_of
second_size = ap size_of (second_frame [])

-- "prints exactly"
pub whole_example : program_text (first_item ++ second_item) ≡ printed
whole_example =
    known_step nothing_yet (first_item ++ second_item) (key_step nothing_yet key) 14 (omega arith) first_step first_size
    ∙ known_step begun second_item (frame_step begun 22 (takes closed)) 22 (omega arith) second_step second_size
    ∙ text_end (after begun 22 closed)
    ∙ account_printed places
