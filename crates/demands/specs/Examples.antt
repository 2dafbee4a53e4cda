-- Document 01's starred bench examples in one table (A to E, G, H, I): what is worked out, beside what the document has. D is as the rule
-- has it, and as printed it is refused with 7, its check found 514 and worked out 49. Assumes nothing.
use Rattle.std.specs.Prelude.{ℕ, suc, ◌≡◌, Bool, true, false, ◌&&◌, List, [], ◌∷◌, map, eqb, ℤ, pos, negsuc}
use Rattle.clock.specs.Clock.{due_at, late}
use Rattle.clock.specs.Paper.{DuePaper, due_paper}
use Rattle.frame.specs.Paper.{ReadPaper, read_paper}
use Rattle.frame.specs.Reading.{read_frame}
use Rattle.frame.specs.Writing.{data_frame, closing_frame, lengths_frame}
use Rattle.sender.specs.declared.Sender.{Sender}
use Rattle.sender.specs.State.{fresh_sender, closing_by}
use Rattle.sender.specs.Calls.{open_call, data_call}
use Rattle.reception.specs.Hearing.{empty_kept}
use Rattle.reception.specs.Several.{answers_to, refusal_number}

-- "stamp 0, first packet, no payload", as document 01 prints it
abbrev pub A : List ℕ
A = 0x10 ∷ 0 ∷ 0 ∷ 0 ∷ 0 ∷ 0 ∷ 0 ∷ 0 ∷ 0 ∷ 0x38 ∷ 0 ∷ []

-- "the same with payload 01"
abbrev pub B : List ℕ
B = 0x10 ∷ 0 ∷ 0 ∷ 0 ∷ 0 ∷ 0 ∷ 0 ∷ 0 ∷ 0 ∷ 0x3A ∷ 0x33 ∷ 0x01 ∷ []

-- "Type 0 after B alone"
abbrev pub C : List ℕ
C = 0 ∷ 0 ∷ 0 ∷ 0 ∷ 1 ∷ 0 ∷ 0 ∷ 0 ∷ 1 ∷ 0 ∷ 0 ∷ 1 ∷ 0 ∷ 0 ∷ 0 ∷ 0 ∷ 1 ∷ 0x9C ∷ []

-- "Type 3 instead", as document 01 prints it
abbrev pub D_printed : List ℕ
D_printed = 0x30 ∷ 0 ∷ 0 ∷ 0 ∷ 1 ∷ 0 ∷ 0 ∷ 0 ∷ 1 ∷ 0 ∷ 0 ∷ 1 ∷ 0 ∷ 0 ∷ 0 ∷ 0 ∷ 1 ∷ 0x02 ∷ 0x02 ∷ 0x00 ∷ 0x10 ∷ []

-- D with the checks that the rule gives
abbrev pub D : List ℕ
D = 0x30 ∷ 0 ∷ 0 ∷ 0 ∷ 1 ∷ 0 ∷ 0 ∷ 0 ∷ 1 ∷ 0 ∷ 0 ∷ 1 ∷ 0 ∷ 0 ∷ 0 ∷ 0 ∷ 1 ∷ 0x00 ∷ 0x31 ∷ 0x00 ∷ 0x10 ∷ []

-- "eighteen zero octets are a good frame"
abbrev pub E : List ℕ
E = 0 ∷ 0 ∷ 0 ∷ 0 ∷ 0 ∷ 0 ∷ 0 ∷ 0 ∷ 0 ∷ 0 ∷ 0 ∷ 0 ∷ 0 ∷ 0 ∷ 0 ∷ 0 ∷ 0 ∷ 0 ∷ []

-- our sender in its first sequence, opened with "stamp 0"
abbrev opened : Sender
opened = (open_call fresh_sender 0).sender

-- and "after B alone": it sent one octet, into twelve octets of room
abbrev after_b : Sender
after_b = (data_call opened 1 12).sender

-- the data PDU that a sender writes of a payload
abbrev pub data_by : Sender → List ℕ → List ℕ
data_by s p = data_frame s.stamp s.number.0 s.elapsed.0 p

-- what reading gives: the refusal's number or 0, the check found and the one worked out, one more than the type, stamp, number, elapsed, the
-- two totals, the payload's length
abbrev read_paper_list : ReadPaper → List ℕ
read_paper_list p =
    p.number ∷ p.found ∷ p.worked ∷ p.kind ∷ p.stamp ∷ p.packet ∷ p.elapsed ∷ p.packets ∷ p.octets ∷ p.payload ∷ []

-- of octets
abbrev pub reading : List ℕ → List ℕ
reading s = read_paper_list (read_paper (read_frame s))

-- the refusals' numbers, or 0, of frames heard one after another into an empty record of three places
abbrev pub hearing : List (List ℕ) → List ℕ
hearing frames = map refusal_number (answers_to (empty_kept 7 3 0 3) 7 3 frames)

-- when a frame is due: the refusal's number or 0, and the tick
abbrev due_list : DuePaper → List ℕ
due_list p = p.number ∷ p.tick ∷ []

-- of a start and a stamp
abbrev pub due : ℕ → ℕ → List ℕ
due start stamp = due_list (due_paper (due_at start stamp))

-- a lateness: 0 and how late, or 1 and how early
abbrev signed : ℤ → List ℕ
signed (pos n) = 0 ∷ n ∷ []
signed (negsuc n) = 1 ∷ suc n ∷ []

-- of an arrival and a due time
abbrev pub lateness : ℕ → ℕ → List ℕ
lateness arrival at = signed (late arrival at)

-- a row: what is worked out, and what the document has
pub record Row : Type 0 where
  pub worked : List ℕ
  pub printed : List ℕ

infix 2 ◌gives◌
-- what is worked out, and then what the document has
abbrev ◌gives◌ : List ℕ → List ℕ → Row
a gives b = record { worked = a; printed = b }

-- "The starred examples are proved together as one table"
abbrev pub table : List Row
table =
    (data_by opened [] gives A)
    ∷ (reading A gives 0 ∷ 0 ∷ 0 ∷ 2 ∷ 0 ∷ 0 ∷ 0 ∷ 0 ∷ 0 ∷ 0 ∷ [])
    ∷ (data_by opened (1 ∷ []) gives B)
    ∷ (reading B gives 0 ∷ 0 ∷ 0 ∷ 2 ∷ 0 ∷ 0 ∷ 0 ∷ 0 ∷ 0 ∷ 1 ∷ [])
    ∷ (closing_frame (closing_by after_b) gives C)
    ∷ (reading C gives 0 ∷ 0 ∷ 0 ∷ 1 ∷ 0 ∷ 1 ∷ 1 ∷ 1 ∷ 1 ∷ 0 ∷ [])
    ∷ (lengths_frame (closing_by after_b) (1 ∷ []) gives D)
    ∷ (reading D gives 0 ∷ 0 ∷ 0 ∷ 4 ∷ 0 ∷ 1 ∷ 1 ∷ 1 ∷ 1 ∷ 0 ∷ [])
    ∷ (reading D_printed gives 7 ∷ 514 ∷ 49 ∷ 0 ∷ 0 ∷ 0 ∷ 0 ∷ 0 ∷ 0 ∷ 0 ∷ [])
    ∷ (reading E gives 0 ∷ 0 ∷ 0 ∷ 1 ∷ 0 ∷ 0 ∷ 0 ∷ 0 ∷ 0 ∷ 0 ∷ [])
    -- G: "after hearing B, number 1 at elapsed 2: 11; number 2 at elapsed 1: accepted"
    ∷ (hearing (B ∷ data_frame 0 1 2 (9 ∷ []) ∷ []) gives 0 ∷ 11 ∷ [])
    ∷ (hearing (B ∷ data_frame 0 2 1 (9 ∷ []) ∷ []) gives 0 ∷ 0 ∷ [])
    -- H: "after B, number 2 at elapsed 4,096: accepted; at 4,097: 11"
    ∷ (hearing (B ∷ data_frame 0 2 4096 (9 ∷ []) ∷ []) gives 0 ∷ 0 ∷ [])
    ∷ (hearing (B ∷ data_frame 0 2 4097 (9 ∷ []) ∷ []) gives 0 ∷ 11 ∷ [])
    -- I: "start 4,294,967,290, stamp 10: due 4; arrival 3 is -1, arrival 2,147,483,652 is -2,147,483,648"
    ∷ (due 4294967290 10 gives 0 ∷ 4 ∷ [])
    ∷ (lateness 3 4 gives 1 ∷ 1 ∷ [])
    ∷ (lateness 2147483652 4 gives 1 ∷ 2147483648 ∷ [])
    ∷ []

-- two lists of numbers are one
unfoldable pub alike : List ℕ → List ℕ → Bool
alike [] [] = true
alike [] (y ∷ ys) = false
alike (x ∷ xs) [] = false
alike (x ∷ xs) (y ∷ ys) = eqb x y && alike xs ys

-- the test of the whole table
unfoldable pub agree : List Row → Bool
agree [] = true
agree (r ∷ rs) = alike r.worked r.printed && agree rs

-- each row says what it says
pub data EachRow : List Row → Type 0 where
  none : EachRow []
  row : {r : Row} {rs : List Row} → r.worked ≡ r.printed → EachRow rs → EachRow (r ∷ rs)
