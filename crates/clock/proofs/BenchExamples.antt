-- The starred bench example I of document 01. Assumes nothing.
use Rattle.std.proofs.Common.{◌≡◌, negsuc, refl}
use Rattle.clock.specs.Clock.{past, due_at, nearest, late}
use Rattle.std.specs.Prelude.{Ok}

-- start 4,294,967,290, stamp 10: due 4
I_due : due_at 4294967290 10 ≡ Ok 4
unfolding due_at
I_due = refl

-- arrival 3: late by -1
I_early : late 3 4 ≡ negsuc 0
unfolding past nearest late
I_early = refl

-- arrival 2,147,483,652: late by -2,147,483,648
I_earliest : late 2147483652 4 ≡ negsuc 2147483647
unfolding past nearest late
I_earliest = refl
