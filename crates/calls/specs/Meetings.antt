-- How seats come to see one list of what was done.
use Rattle.std.specs.Prelude.{◌≡◌, ◌+◌, ◌≤◌, List}
use Rattle.calls.specs.declared.view.Deed.{Deed}
use Rattle.calls.specs.Tallies.{queued_in, finished_in, deeds_of, AreTakers, IsBeginning, AreTrue}
use Rattle.calls.specs.Views.{CallSeatView, BatchView}

module _ {J : Type 0} where
  -- one load by the seat, which is no deed. It has then seen all that was done until then, and so what another had seen. All batches there were finished by processors that are there
  pub record Covers (s : CallSeatView J) (other : List (Deed J)) (t : CallSeatView J) : Type 0 where
    pub same : t ≡ record s { seen = t.seen }
    pub since : IsBeginning s.seen t.seen
    pub own : deeds_of s.processor t.seen ≡ deeds_of s.processor s.seen
    pub covers : IsBeginning other t.seen
    pub loads : AreTrue t.seen
    pub takers : AreTakers s.processors t.seen

  -- one load by the seat, which is no deed. It has then seen just this, where all batches were finished by processors that are there
  pub record Accepts (s : CallSeatView J) (all : List (Deed J)) (t : CallSeatView J) : Type 0 where
    pub is : t ≡ record s { seen = all }
    pub since : IsBeginning s.seen all
    pub own : deeds_of s.processor all ≡ deeds_of s.processor s.seen
    pub loads : AreTrue all
    pub takers : AreTakers s.processors all

module _ {J : Type 0} where
  -- at a moment of the call the batch was out: its first number was the finished count of its processor, and its jobs were queued and not finished. The seat made no deed, and has then seen that moment
  pub record SeesOut (b : BatchView J) (s t : CallSeatView J) : Type 0 where
    pub moment : List (Deed J)
    pub not_before : IsBeginning s.seen moment
    pub covers : Covers s moment t
    pub first : b.first ≡ finished_in b.processor moment
    pub queued : finished_in b.processor moment + b.count ≤ queued_in b.processor moment
