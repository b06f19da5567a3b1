-- What new callbacks are.
use Rattle.std.specs.Prelude.{◌≡◌, ℕ, [], None}
use Rattle.atomic_table.specs.Seated.{TableId}
use Rattle.calls.specs.declared.making.Sights.{Sights}
use Rattle.calls.specs.declared.view.Plan.{Plan}
use Rattle.annals.specs.declared.view.Role.TheVariants.{Dealer}
use Rattle.calls.specs.Tallies.{word_count}
use Rattle.annals.specs.Rule.{founder}
use Rattle.calls.specs.Rule.{tally_client}
use Rattle.calls.specs.Seats.{Place}
use Rattle.calls.specs.Views.{CallSeatView, ListView}
use Rattle.calls.specs.Calls.{new_seat}

-- all of this domain
abbrev pub AreSights : TableId → Sights → Type 0
AreSights domain sights = (sights.seat.domain ≡ domain) × (sights.given.domain ≡ domain) × (sights.list.domain ≡ domain)

module _ {J : Type 0} where
  -- the seat stands for the processors from k on
  pub record IsDealer (plan : Plan) (table : TableId) (k : ℕ) (seat : Place J) : Type 0 where
    pub wide : table.words ≡ word_count plan.processors
    pub seated : seat.table_id ≡ table
    pub me : seat.me ≡ (record (founder tally_client plan) { role = Dealer k }, [])

  pub record NewTable (plan key : Plan) (table : TableId) (seat : Place J) : Type 0 where
    pub key_is : key ≡ plan
    pub dealer : IsDealer key table 0 seat

  -- the seat and the list of a processor, new, of this domain
  pub record IsDealt (plan : Plan) (table : TableId) (domain : TableId) (p : ℕ) (s : CallSeatView J) (l : ListView J) : Type 0 where
    pub seat : s ≡ new_seat domain table plan.processors p
    pub list : l ≡ record { tallies = table; processor = p; counted = 0; finished = 0; out = None; moved = 0; entries = []; given = l.given; sight = l.sight }
    pub of_domain : l.sight.domain ≡ domain
