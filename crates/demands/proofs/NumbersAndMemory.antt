-- Demand 1 holds. Assumes nothing.
use lib.ListN.{length}
use Rattle.sender.proofs.RefusedOrAccepted.{open_keeps, renew_keeps, data_keeps, close_keeps, close_with_keeps}
use Rattle.frame.proofs.ChecksTold.{read_told}
use Rattle.demands.specs.Demand1.{Demand1}
use Rattle.demands.proofs.ChecksAnswered.{lists_tell, lists_hand_on, takes_tell, takes_hand_on, each_tells}
use Rattle.demands.proofs.Refusals.{read_carries, lists_carry, writes, data_carries, closing_carries, lengths_carry, moment_carries, due_carries}
use Rattle.demands.proofs.SenderRefusals.{turns_carry, open_carries, renew_carries, sends_carry, sent_carries, closed_carries, closed_with_carries}
use Rattle.demands.proofs.RecordRefusals.{takes_leaves, fresh_leaves, hear_leaves, many_carry, joins_leaves, join_leaves, reports_carry}

pub demand_1 : Demand1
demand_1 =
    record {
      reading = λ s r e. rw e (read_carries s);
      lengths = lists_carry;
      writing_data = λ stamp n e p old r new w. writes _ _ _ old r new (data_carries stamp n e (length p) (length old)) w;
      writing_closing = λ c old r new w. writes _ _ _ old r new (closing_carries c (length old)) w;
      writing_lengths = λ c ls old r new w. writes _ _ _ old r new (lengths_carry c ls (length old)) w;
      opening = λ s stamp r w. turns_carry _ s _ r (open_carries s stamp) (open_keeps s stamp) w;
      renewing = λ s r w. turns_carry _ s _ r (renew_carries s) (renew_keeps s) w;
      sending = λ s p old r new w. sends_carry _ s _ _ old r new (sent_carries s (length p) (length old)) (data_keeps s (length p) (length old)) w;
      closing = λ s old r new w. sends_carry _ s _ _ old r new (closed_carries s (length old)) (close_keeps s (length old)) w;
      closing_with_lengths = λ s ls old r new w. sends_carry _ s _ _ old r new (closed_with_carries s ls (length old)) (close_with_keeps s ls (length old)) w;
      stamping = λ start tick r e. rw e (moment_carries start tick);
      due_time = λ start stamp r e. rw e (due_carries start stamp);
      fresh_record_fact = λ bearer period stamp marks elapsed sizes r m e s w.
          takes_leaves _ _ _ r m e s (fresh_leaves bearer period stamp marks elapsed sizes) w;
      hearing = λ k bearer period f r m e s w. takes_leaves _ _ _ r m e s (hear_leaves k bearer period f) w;
      hearing_many = many_carry;
      reading_tells = λ s r e. rw e (read_told s);
      lengths_tell = lists_tell;
      lengths_hand_on = lists_hand_on;
      hearing_tells = takes_tell;
      hearing_hands_on = takes_hand_on;
      each_told = each_tells;
      joining = λ a b r m e s w. joins_leaves a _ r m e s (join_leaves a b) w;
      reporting = reports_carry;
    }
