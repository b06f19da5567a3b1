-- Each processor gets the seat of its number.
use Rattle.std.proofs.Common.{◌≡◌, ℕ, ◌+◌, ◌-◌, ◌<◌, List, [], ◌++◌, Option, Some, None, option_to_list, IfSome, length, get_or, reverse, refl, sym, ap, ◌∙◌, subst, arith, append-nil}
use Rattle.race.proofs.Words.{get_or-reverse, length-reverse, most_sections, opened_in, closed_in, SeatView, new_seat, CpuView, IsOf, LeaseView, Course, Reader, IsCourse, own_swaps, laid_in, found_in, HasMade, EachAt, EachCpu, IsNewReader, IsNewCpu, own_deeds, IsNew, queued_in, finished_in}
use Rattle.race.proofs.Words.{deeds_of, IsMade, TableState, Bounds}
use Rattle.domain.specs.Parts as Parts
use Rattle.race.proofs.Placing.{Each, each_popped, last_popped}

abbrev pub EachSeat : (ℕ → SeatView LeaseView → Type 0) → List (SeatView LeaseView) → Type 0
EachSeat P seats = (i : ℕ) (d : SeatView LeaseView) → i < length seats → P i (get_or seats i d)

-- of so many readers, at this place where the last one comes first
pub record IsNext (g : Course) (many place : ℕ) (r : Reader) : Type 0 where
  pub made : HasMade g 0 r
  pub number_is : r.cpu.cpu.processor + place + 1 ≡ many

-- a new processor and the seat of its number
pub seated : (g : Course) (k : ℕ) (c : CpuView Unit) (v : SeatView LeaseView) → IsCourse g → IsNewCpu g k c → v ≡ new_seat g.desk k → HasMade g 0 record { cpu = c; seat = v; opened = 0; closed = 0 }
seated g k c v course new is =
    let none = ap opened_in new.none in
    let none_closed = ap closed_in new.none in
    let own : own_swaps v ≡ [] = ap own_swaps is in
    let laid = ap laid_in own in
    let found = ap found_in own in record {
      is = record {
        here = new.here;
        limit = new.limit;
        desk = ap (λ (z : SeatView LeaseView). z.desk) is;
        home = ap (λ (z : SeatView LeaseView). z.domain) is ∙ course.home;
        number = ap (λ (z : SeatView LeaseView). z.number) is ∙ sym new.number_is;
      };
      tells = record {
        opened = none;
        closed = none_closed;
        laid = omega (arith, laid);
        found = omega (arith, found);
        idle = new.idle;
      };
      opened = refl;
      few = omega arith;
    }

-- what a pop took out, if it took something
module _ {A : Type 0} (P : ℕ → A → Type 0) where
  pub popped : (xs ys : List A) (r : Option A) → xs ≡ ys ++ option_to_list r → Each P xs → Each P ys × IfSome r (P (length ys))
  popped xs ys None is h = (subst (Each P) (is ∙ append-nil ys) h, tt)
  popped xs ys (Some x) is h = (each_popped P xs ys x is h, last_popped P xs ys x is h)

-- from last to first, and so in their order
pub in_order : (g : Course) (rs back : List Reader) → back ≡ reverse rs → EachAt (IsNext g (length rs)) rs → EachAt (IsNewReader g) back
in_order g rs back is h i d lt =
    let long : length back ≡ length rs = ap length is ∙ length-reverse rs in
    let inside : i < length rs = omega (arith, lt, long) in
    let there = h (length rs - 1 - i) d (omega (arith, inside)) in
    let same : get_or rs (length rs - 1 - i) d ≡ get_or back i d = sym (ap (λ l. get_or l i d) is ∙ get_or-reverse rs i d inside) in
    subst (IsNewReader g i) same (record { made = there.made; number_is = let n = there.number_is in omega (arith, n, inside) })

-- What a new domain gives

pub made_cpus : (g : Course) (bounds : Bounds) (cpus : List (CpuView Unit)) → IsMade bounds g.domain cpus → Parts.Each (IsOf g.domain) cpus → bounds.sections ≡ most_sections → EachCpu (IsNewCpu g) cpus
made_cpus g bounds cpus made here limit k c lt =
    let is = made.each k c lt in record {
      here = here k c lt;
      limit = ap (λ (z : CpuView Unit). z.cpu.sections) is ∙ limit;
      number_is = ap (λ (z : CpuView Unit). z.cpu.processor) is;
      none = ap (λ (z : CpuView Unit). z.cpu.mine) is;
      idle = ap (λ (z : CpuView Unit). z.calls.seen) is;
    }

pub new_updater : (g : Course) (k : ℕ) (c : CpuView Unit) (t : TableState) → IsNewCpu g k c → t.writer.domain ≡ g.domain.domain → IsNew g record { cpu = c; table = t; versions = 0; queued = 0; finished = 0 }
new_updater g k c t new table =
    let own : own_deeds c.calls ≡ [] = ap (deeds_of c.calls.processor) new.idle in record {
      is = record { here = new.here; table = table };
      tells = record {
        opened = ap opened_in new.none;
        closed = ap closed_in new.none;
        calls = record {
          queued_are = ap (queued_in c.calls.processor) own;
          finished_are = λ few. sym (ap (finished_in c.calls.processor) own);
          others = λ q ne. ap (finished_in q) own;
        };
      };
      none = (refl, refl);
    }
