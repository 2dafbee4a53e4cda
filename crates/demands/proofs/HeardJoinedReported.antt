-- Demand 3 holds. Assumes nothing.
use Prim.Native.Nat.{ℕ}
use native.Mathlib.Omega.{arith}
use mathlib.Core.Path.{◌≡◌, refl, sym, ap, subst, ◌∙◌}
use mathlib.Core.Bool.{false}
use mathlib.Core.Logic.{◌↔◌}
use mathlib.Core.List.{List, map}
use Rattle.units.specs.Refusals.{contradiction, tells_checks}
use Rattle.units.proofs.ToldByNumber.{same_refusal}
use Rattle.fields.specs.Runs.{front}
use Rattle.frame.specs.Paper.{CountPaper}
use Rattle.frame.specs.WrongChecks.{TellsOf}
use Rattle.reception.specs.Answers.{Joined, Reported, Taken}
use Rattle.reception.specs.declared.Report.{Report}
use Rattle.reception.specs.Sendings.{Explains}
use Rattle.reception.specs.Hearing.{Kept, Outcome, held_by, refuses, other_key, hear_frame, taken_paper}
use Rattle.reception.specs.Joining.{HoldsBoth, JoinPaper, JoinOutcome, joins, join_records, joined_paper}
use Rattle.reception.specs.Missing.{GapsRight}
use Rattle.reception.specs.Reporting.{Gap, gaps_of, gaps_after, report_record, report_of, Reports, room_of}
use Rattle.reception.proofs.DamagedExactly.{undamaged_passed}
use Rattle.reception.proofs.HeardTold.{heard_checks}
use Rattle.reception.proofs.HearingContradicts.{unexplained_packet, refused_packet, unexplained_closing, refused_closing}
use Rattle.reception.proofs.JoinJudged.{Joinable}
use Rattle.reception.proofs.JoinRefusedExactly.{refused_exactly}
use Rattle.reception.proofs.JoinsGrouped.{LeftFirst, grouped, grouped_either}
use Rattle.reception.proofs.KeptAsHeld.{matched_lists}
use Rattle.reception.proofs.LawsOfJoining.{own_record, either_order, with_itself, with_empty, empty_with}
use Rattle.reception.proofs.OnePaper.{reported_known}
use Rattle.reception.proofs.ReportSaid.{report_done, closed_said, said_gaps}
use Rattle.reception.proofs.WhatHearingAdds.{Sound, owned_key, packet_heard, closing_heard}
use Rattle.reception.proofs.WhatJoiningAdds.{holds_either}
use Rattle.demands.specs.Demand3.{Proper, OneSequence, HeardAs, WasTaken, Contradicted, OwnKey, JoinedAs, Accepted, empty_like, Demand3}
use Rattle.std.specs.Prelude.{Ok, Err}
use Rattle.reception.specs.declared.NotJoined.TheVariants.{Contradicts, Refused}
use Rattle.units.specs.declared.refusals.Refusal.TheVariants.{Contradiction}

-- a proper record is one to which neither 14 nor 13 applies
sound : (k : Kept) → Proper k → Sound k
sound k p = record { matched = matched_lists k.marks k.elapsed k.sizes p.lists; undamaged = undamaged_passed k.head.stamp (held_by k) p.undamaged }

-- an accepted answer is the one that says so
taken_done : (a : Taken) → (taken_paper a).accepted ≡ 1 → a ≡ Ok tt
unfolding taken_paper
taken_done (Ok u) e = refl
taken_done (Err r) e = absurd (omega (arith, e))

join_done : (a : Joined) → (joined_paper a).accepted ≡ 1 → a ≡ Ok tt
unfolding joined_paper
join_done (Ok u) e = refl
join_done (Err (Contradicts n)) e = absurd (omega (arith, e))
join_done (Err (Refused r)) e = absurd (omega (arith, e))

abbrev accepted_of : CountPaper → ℕ
accepted_of p = p.accepted

abbrev number_of : CountPaper → ℕ
number_of p = p.number

abbrev join_accepted : JoinPaper → ℕ
join_accepted p = p.accepted

-- what was heard
module _ (k : Kept) (bearer period : ℕ) (f : List ℕ) (o : Outcome) (h : HeardAs k bearer period f o) (t : WasTaken o) where
  heard_done : (hear_frame k bearer period f).answer ≡ Ok tt
  heard_done = taken_done _ (sym (ap accepted_of h.says) ∙ t)

-- an answer with number 11 is the refusal, which tells of no check
taken_contradicts : (f : List ℕ) (a : Taken) → TellsOf f (taken_paper a) → (taken_paper a).number ≡ contradiction → a ≡ Err Contradiction
unfolding taken_paper
taken_contradicts f (Ok u) t e = absurd (omega (arith, e))
taken_contradicts f (Err r) t e =
    let z = t.neither (ap tells_checks e) in
    ap Err (same_refusal r Contradiction e z.0 z.1)

-- what was refused with 11
module _ (k : Kept) (bearer period : ℕ) (f : List ℕ) (o : Outcome) (h : HeardAs k bearer period f o) where
  heard_contradicts : Contradicted o → (hear_frame k bearer period f).answer ≡ Err Contradiction
  heard_contradicts t = taken_contradicts f _ (heard_checks k bearer period f) (sym (ap number_of h.says) ∙ t)

  contradicts_heard : hear_frame k bearer period f ≡ refuses k Contradiction → Contradicted o
  unfolding taken_paper
  contradicts_heard e = ap number_of (h.says ∙ ap (λ (x : Outcome). taken_paper x.answer) e)

own : (k : Kept) (bearer period stamp : ℕ) → OwnKey k bearer period stamp → other_key k.head bearer period stamp ≡ false
own k bearer period stamp q = owned_key k.head bearer period stamp q.bearers q.periods q.stamps

-- what was joined
module _ (a b : Kept) (o : JoinOutcome) (h : JoinedAs a b o) where
  joined_done : Accepted o → (join_records a b).answer ≡ Ok tt
  joined_done t = join_done _ (sym (ap join_accepted h.says) ∙ t)

  done_joined : (join_records a b).answer ≡ Ok tt → Accepted o
  unfolding joined_paper
  done_joined e = ap join_accepted (h.says ∙ ap joined_paper e)

  joined_all : (k : Kept) → join_records a b ≡ joins k → Accepted o × (o.kept ≡ k)
  joined_all k e = (done_joined (ap (λ (x : JoinOutcome). x.answer) e), h.leaves ∙ ap (λ (x : JoinOutcome). x.kept) e)

either_way : (a b : Kept) (o p : JoinOutcome) → JoinedAs a b o → JoinedAs b a p → Accepted o → Accepted p × (o.kept ≡ p.kept)
either_way a b o p h g t =
    let d = joined_done a b o h t in
    let e = either_order a b d in (
      done_joined b a p g (ap (λ (x : JoinOutcome). x.answer) e ∙ d),
      h.leaves ∙ ap (λ (x : JoinOutcome). x.kept) (sym e) ∙ sym g.leaves,
    )

holds : (a b : Kept) (o : JoinOutcome) → JoinedAs a b o → Accepted o → HoldsBoth (held_by a) (held_by b) (held_by o.kept)
holds a b o h t =
    let x = (holds_either a b (joined_done a b o h t)).holds in
    rw h.leaves x

joinable : (a b : Kept) → OneSequence a b → Joinable a b
joinable a b q =
    record {
      left = sound a q.left;
      right = sound b q.right;
      own = own_record a b (record { bearers = q.bearers; periods = q.periods; stamps = q.stamps });
      long = q.capacities;
    }

exactly : (a b : Kept) (o : JoinOutcome) → OneSequence a b → JoinedAs a b o → Accepted o ↔ ((s : List ℕ) × Explains (held_by a) s × Explains (held_by b) s)
exactly a b o q h =
    let x = refused_exactly a b (joinable a b q) in
    (λ t. x.0 (joined_done a b o h t), λ t. done_joined a b o h (x.1 t))

three : (a b c : Kept) (ab abc bc a-bc : JoinOutcome) → JoinedAs a b ab → JoinedAs ab.kept c abc → JoinedAs b c bc → JoinedAs a bc.kept a-bc
    → Accepted ab → Accepted abc → Accepted bc × Accepted a-bc × (abc.kept ≡ a-bc.kept)
three a b c ab abc bc a-bc h g i j t u =
    let l : LeftFirst a b c = record {
      first = joined_done a b ab h t;
      then = subst (λ (x : Kept). (join_records x c).answer ≡ Ok tt) h.leaves (joined_done ab.kept c abc g u);
    } in
    let r = (grouped_either a b c).0 l in (
      done_joined b c bc i r.first,
      done_joined a bc.kept a-bc j (subst (λ (x : Kept). (join_records a x).answer ≡ Ok tt) (sym i.leaves) r.then),
      g.leaves
          ∙ ap (λ (x : Kept). (join_records x c).kept) h.leaves
          ∙ ap (λ (x : JoinOutcome). x.kept) (grouped a b c l)
          ∙ ap (λ (x : Kept). (join_records a x).kept) (sym i.leaves)
          ∙ sym j.leaves,
    )

-- the report
gaps_there : (k : Kept) (firsts counts octets : List ℕ) (t : Report) (f c o : List ℕ) → Reports k firsts counts octets (Ok t) f c o
    → GapsRight (held_by k) × (f ≡ front firsts (map (λ (g : Gap). g.first) (gaps_of (held_by k))))
    × (c ≡ front counts (map (λ (g : Gap). g.count) (gaps_of (held_by k)))) × (o ≡ front octets (map (λ (g : Gap). g.octets) (gaps_of (held_by k))))
unfolding gaps_after
gaps_there k firsts counts octets t f c o w =
    let room = room_of firsts counts octets in
    let e : report_record k room ≡ Ok t = sym (reported_known (Ok t) (report_record k room) w.says) in (
      said_gaps k room t e,
      w.leaves_firsts ∙ ap (λ (x : Reported). gaps_after x (λ (g : Gap). g.first) (gaps_of (held_by k)) firsts) e,
      w.leaves_counts ∙ ap (λ (x : Reported). gaps_after x (λ (g : Gap). g.count) (gaps_of (held_by k)) counts) e,
      w.leaves_octets ∙ ap (λ (x : Reported). gaps_after x (λ (g : Gap). g.octets) (gaps_of (held_by k)) octets) e,
    )

pub demand_3 : Demand3
demand_3 =
    record {
      packet_added = λ k bearer period f d o e h t.
          let x = packet_heard k bearer period f d e (heard_done k bearer period f o h t) in
          (ap held_by h.leaves ∙ x.holds, ap (λ (y : Kept). y.head) h.leaves ∙ x.same_head);
      closing_added = λ k bearer period f c o e h t.
          let x = closing_heard k bearer period f c e (heard_done k bearer period f o h t) in
          (ap held_by h.leaves ∙ x.holds, ap (λ (y : Kept). y.head) (h.leaves ∙ x.kept_is));
      packet_contradicts_fact = λ k bearer period f d o e h p q lt.
          let s = sound k p in
          let w = own k bearer period d.stamp q in (
            λ t x. refused_packet k bearer period f d e s w lt (heard_contradicts k bearer period f o h t) x.0 x.1 x.2,
            λ n. contradicts_heard k bearer period f o h (unexplained_packet k bearer period f d e s w lt (λ s x y. n (s, x, y))),
          );
      closing_contradicts_fact = λ k bearer period f c o e h p q le.
          let s = sound k p in
          let w = own k bearer period c.stamp q in (
            λ t x. refused_closing k bearer period f c e s w le (heard_contradicts k bearer period f o h t) x.0 x.1 x.2,
            λ n. contradicts_heard k bearer period f o h (unexplained_closing k bearer period f c e s w le (λ s x y. n (s, x, y))),
          );
      holds_both = holds;
      either_order = either_way;
      grouped = three;
      with_itself = λ a o p h. joined_all a a o h a (with_itself a (sound a p));
      with_empty = λ a o p h. joined_all a (empty_like a) o h a (with_empty a (sound a p));
      empty_with = λ a o p h. joined_all (empty_like a) a o h a (empty_with a (sound a p));
      refused_exactly = exactly;
      reported = λ k firsts counts octets r f c o p closed fits w.
          let room = room_of firsts counts octets in
          let e = report_done k room (sound k p) fits in (
            report_of (held_by k),
            reported_known r (report_record k room) w.says ∙ e,
            λ s x. closed_said k room (report_of (held_by k)) e s closed x,
          );
      gaps_listed = gaps_there;
    }
