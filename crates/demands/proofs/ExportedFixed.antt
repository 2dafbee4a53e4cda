-- Each promise of an exported function fixes its outcome: each of its parts is an equation. Assumes nothing.
use mathlib.Core.Path.{sym, ◌∙◌}
use Rattle.demands.specs.Exported.{OneExported}

pub one_exported : OneExported
one_exported =
    record {
      header_check_fact = λ s x y p q. p ∙ sym q;
      payload_check_fact = λ s x y p q. p ∙ sym q;
      payload_kept_fact = λ s x y p q. p ∙ sym q;
      read_frame_fact = λ w old x y p q. let a = p.says ∙ sym q.says in let b = p.leaves ∙ sym q.leaves in λ i. (a i, b i);
      read_lengths = λ s old x y p q. let a = p.says ∙ sym q.says in let b = p.leaves ∙ sym q.leaves in λ i. (a i, b i);
      write = λ w frame old x y p q. let a = p.says ∙ sym q.says in let b = p.leaves ∙ sym q.leaves in λ i. (a i, b i);
      sender_fresh = λ old x y p q. let a = p.says ∙ sym q.says in let b = p.leaves ∙ sym q.leaves in λ i. (a i, b i);
      sender_turn = λ old t x y p q. let a = p.says ∙ sym q.says in let b = p.leaves_state ∙ sym q.leaves_state in λ i. (a i, b i);
      sender_frame = λ old t frame out x y p q.
          let a = p.says ∙ sym q.says in
          let b = p.leaves_state ∙ sym q.leaves_state in
          let c = p.leaves_out ∙ sym q.leaves_out in
          λ i. (a i, b i, c i);
      record_call = λ as_number old k t x y p q.
          let a = p.says ∙ sym q.says in
          let b = p.leaves_head ∙ sym q.leaves_head in
          let c = p.leaves_marks ∙ sym q.leaves_marks in
          let d = p.leaves_elapsed ∙ sym q.leaves_elapsed in
          let e = p.leaves_sizes ∙ sym q.leaves_sizes in
          λ i. (a i, b i, c i, d i, e i);
      hear_all_fact = λ as_number old k t ts answers x y p q.
          let a = p.0.says ∙ sym q.0.says in
          let b = p.0.leaves_head ∙ sym q.0.leaves_head in
          let c = p.0.leaves_marks ∙ sym q.0.leaves_marks in
          let d = p.0.leaves_elapsed ∙ sym q.0.leaves_elapsed in
          let e = p.0.leaves_sizes ∙ sym q.0.leaves_sizes in
          let f = p.1.leaves_answers ∙ sym q.1.leaves_answers in
          λ i. (a i, b i, c i, d i, e i, f i);
      join = λ old other k t x y p q.
          let a = p.says ∙ sym q.says in
          let b = p.leaves_head ∙ sym q.leaves_head in
          let c = p.leaves_marks ∙ sym q.leaves_marks in
          let d = p.leaves_elapsed ∙ sym q.leaves_elapsed in
          let e = p.leaves_sizes ∙ sym q.leaves_sizes in
          λ i. (a i, b i, c i, d i, e i);
      report = λ head k firsts counts octets figures x y p q.
          let a = p.says ∙ sym q.says in
          let b = p.leaves_firsts ∙ sym q.leaves_firsts in
          let c = p.leaves_counts ∙ sym q.leaves_counts in
          let d = p.leaves_octets ∙ sym q.leaves_octets in
          let e = p.leaves_figures ∙ sym q.leaves_figures in
          λ i. (a i, b i, c i, d i, e i);
      stamp_of_fact = λ start tick x y p q. p ∙ sym q;
      due = λ start stamp x y p q. p ∙ sym q;
      lateness = λ arrival at x y p q. p ∙ sym q;
    }
