-- No function that meets its promise is one of the versions to be shut out. Assumes nothing.
use Prim.Native.Nat.{ℕ}
use native.Mathlib.Omega.{arith}
use mathlib.Core.Path.{◌≡◌, refl, sym, ap, ◌∙◌}
use mathlib.Core.List.{List, [], ◌∷◌}
use lib.ListN.{get_or}
use Rattle.fields.specs.Numbers.{be, octets}
use Rattle.checks.specs.Check.{divide, low_digits, bits_of, check}
use Rattle.frame.specs.Counts.{some_of, data_wrong}
use Rattle.frame.specs.Paper.{ReadPaper, CountPaper, read_paper, written_paper}
use Rattle.frame.specs.Payloads.{starts_v4, starts_v6, payload_kept}
use Rattle.frame.specs.Reading.{read_frame, read_headed, read_body}
use Rattle.frame.specs.Writing.{data_frame, write_data}
use Rattle.frame.specs.declared.Read.{Read}
use Rattle.frame.proofs.ExtensionDropped.{frame_with, ipv4, two, two_dropped}
use Rattle.reception.specs.Adding.{packet_contradicts, closing_contradicts}
use Rattle.reception.specs.Damage.{place_wrong, places_wrong, closing_off, walk_fails, damaged_record}
use Rattle.reception.specs.Hearing.{Kept, empty_kept, keep_packet, lists_differ, other_key, hear_packet, hear_read, hear_frame}
use Rattle.reception.specs.Joining.{chosen, lowest_off, join_records}
use Rattle.reception.specs.Reporting.{report_record}
use Rattle.reception.specs.Walk.{reach, fits, may_end, walk, is_explained}
use Rattle.reception.proofs.OnePaper.{reported_known}
use Rattle.reception.proofs.ReportSaid.{closed_said}
use Rattle.demands.specs.Examples.{A, B}
use Rattle.demands.specs.ShutOut.{ShutOut}

-- B is accepted
B_kind : (read_paper (read_frame B)).kind ≡ 2
unfolding be divide low_digits bits_of check read_paper read_frame read_headed read_body payload_kept starts_v4 starts_v6 data_wrong
B_kind = refl

-- A and B say other lengths
A_payload : (read_paper (read_frame A)).payload ≡ 0
unfolding be divide low_digits bits_of check read_paper read_frame read_headed read_body payload_kept starts_v4 starts_v6 data_wrong
A_payload = refl

B_payload : (read_paper (read_frame B)).payload ≡ 1
unfolding be divide low_digits bits_of check read_paper read_frame read_headed read_body payload_kept starts_v4 starts_v6 data_wrong
B_payload = refl

-- an IPv4 packet of twenty octets with two behind it, as a first packet
abbrev extended : List ℕ
extended = frame_with 0x3B 0x98 (ipv4 0x45 0 20 two)

extended_read : ((read_paper (read_frame extended)).kind ≡ 2) × ((read_paper (read_frame extended)).payload ≡ 20)
unfolding read_paper
extended_read = (ap (λ (r : Read). (read_paper r).kind) two_dropped, ap (λ (r : Read). (read_paper r).payload) two_dropped)

-- A can be written
A_writable : (written_paper (write_data 0 0 0 0 11)).accepted ≡ 1
unfolding written_paper write_data data_wrong
A_writable = refl

-- an empty record of two places, and one that heard B
abbrev nothing : Kept
nothing = empty_kept 7 3 0 2

abbrev after_b : Kept
after_b = keep_packet nothing 0 0 1

-- the first joined with the second has heard packet 0
B_joined : get_or (join_records nothing after_b).kept.marks 0 0 ≡ 1
unfolding some_of reach fits may_end walk is_explained packet_contradicts closing_contradicts place_wrong places_wrong closing_off walk_fails damaged_record lists_differ other_key chosen lowest_off join_records
B_joined = refl

-- the second hears packet 1 too
abbrev second : List ℕ
second = data_frame 0 1 1 (9 ∷ [])

second_heard : get_or (hear_frame after_b 7 3 second).kept.marks 1 0 ≡ 1
unfolding be octets divide low_digits bits_of check read_frame read_headed read_body payload_kept starts_v4 starts_v6 data_wrong data_frame some_of reach fits may_end walk is_explained packet_contradicts place_wrong places_wrong closing_off walk_fails damaged_record lists_differ other_key hear_packet hear_read hear_frame
second_heard = refl

different : {m n : ℕ} → m ≡ n → m ≡ 0 → n ≡ 1 → ⊥
different e p q = omega (arith, e, p, q)

pub shut_out : ShutOut
shut_out =
    record {
      refuses_all_frames = λ f meets all. let e = ap (λ (p : ReadPaper). p.kind) (meets B) in let k = B_kind in let z = all B in omega (arith, e, k, z);
      refuses_all_writing = λ f meets all.
          let e = ap (λ (p : CountPaper). p.accepted) (meets 0 0 0 0 11) in
          let k = A_writable in
          let z = all 0 0 0 0 11 in
          omega (arith, e, k, z);
      replies_the_same = λ f meets all.
          different (ap (λ (p : ReadPaper). p.payload) (sym (meets A) ∙ ap read_paper (all A B) ∙ meets B)) A_payload B_payload;
      counts_extensions = λ f meets all.
          let e = meets extended in
          let k = ap (λ (p : ReadPaper). p.kind) e ∙ extended_read.0 in
          let l = ap (λ (p : ReadPaper). p.payload) e ∙ extended_read.1 in
          let z = all extended k in
          omega (arith, l, z);
      joins_nothing = λ f meets all.
          different (ap (λ (k : Kept). get_or k.marks 0 0) (sym (all nothing after_b) ∙ (meets nothing after_b).leaves)) refl B_joined;
      takes_first_only = λ f meets all.
          different (ap (λ (k : Kept). get_or k.marks 1 0) (sym (all after_b 0 7 3 second refl) ∙ (meets after_b 7 3 second).leaves)) refl second_heard;
      invents_counts = λ f meets k room t s e c x off.
          off (closed_said k room t (sym (reported_known (f k room) (report_record k room) (meets k room)) ∙ e) s c x);
    }
