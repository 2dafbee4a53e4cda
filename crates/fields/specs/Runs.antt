-- What lent memory holds once a run of octets is laid into it: nothing else differs (document 01, "Refusal numbers": output
-- beyond what was written is untouched). Assumes nothing.
use Rattle.std.specs.Prelude.{ℕ, ◌+◌, List, ◌++◌, length, take, drop}

-- old, with xs in the place of what stood from at on
unfoldable pub laid : List ℕ → ℕ → List ℕ → List ℕ
laid old at xs = take at old ++ xs ++ drop (at + length xs) old

-- old, with xs in the place of its first octets: "output beyond what was written is untouched"
unfoldable pub front : List ℕ → List ℕ → List ℕ
front old xs = xs ++ drop (length xs) old
