-- When all workers are back, what they counted is what the domain tells.
use Rattle.std.proofs.Common.{◌≡◌, ℕ, ◌+◌, ◌*◌, ◌<◌, ◌≤◌, List, [], ◌∷◌, ◌++◌, Option, Some, None, is_some, IfSome, MatchOption, map, length, get_or, sum_by, refl, sym, ap, ◌∙◌, subst, arith, length-append, Result, Ok, Err, MatchResult}
use Rattle.race.proofs.Words.{length-map, get_or-map, sum_by_push, sum_by-le, get_or-append_seam, bit, most_processors, opened_in, closed_in, SeatView, new_seat, AreAllSeats, DomainView, CpuView, IsOf, Each, IsTakenDown, LeaseView, queued_in, finished_in, CallSeatView, Course, Reader, Workers}
use Rattle.race.proofs.Words.{RaceTotals, IsCourse, one_if, own_deeds, EachAt, IsBack, AreBack, opened_by, closed_by, ClosesDesk, EndsSections, StaysInUse, Agrees, AreCounts}
use Rattle.std.specs.Result.{result_ok}
use Rattle.domain.specs.declared.domain.cleanup.Totals as domain
use Rattle.race.proofs.Placing as placing
use Rattle.race.proofs.Parting.{sum_map, sum_same}
use Rattle.race.proofs.Summing.{opened_closed}
use Rattle.race.proofs.Telling.{AreInPlace, opened_told, closed_told, queued_told, finished_told, all_told}

-- The last lease

one_bit : (left : Option LeaseView) → one_if left ≡ bit (is_some left)
one_bit None = refl
one_bit (Some x) = refl

pub one_at_most : (left : Option LeaseView) → one_if left ≤ 1
one_at_most None = omega arith
one_at_most (Some x) = omega arith

-- What is told

-- the totals, where the domain was taken down; and where it was not, for whatever cause it was told, nothing
pub cleaned_up : {X : Type 0} (d : DomainView) (cpus : List (CpuView Unit)) (P : X → Type 0) → ((x : X) → P x → StaysInUse d cpus) → (r : Result domain.Totals X) → MatchResult r (λ t. IsTakenDown d cpus t) P → MatchOption (result_ok r) (StaysInUse d cpus) (IsTakenDown d cpus)
cleaned_up d cpus P why (Ok t) down = down
cleaned_up d cpus P why (Err x) h = why x h

-- Sums of what is left

pub few_opened : (g : Course) (rs : List Reader) → IsCourse g → EachAt (IsBack g) rs → length rs < most_processors → opened_by rs ≤ 1000 * most_processors
few_opened g rs course each few =
    let all = sum_by-le (λ (r : Reader). r.opened) 1000 rs (λ i d lt. let n = (each i d lt).opened in let most = course.few in omega (arith, n, most)) in
    omega (arith, all, few)

pub few_closed : (g : Course) (rs : List Reader) → IsCourse g → EachAt (IsBack g) rs → length rs < most_processors → closed_by rs ≤ 1001 * most_processors
few_closed g rs course each few =
    let all = sum_by-le (λ (r : Reader). r.closed) 1001 rs (λ i d lt. let n = (each i d lt).closed in let most = course.few in omega (arith, n, most)) in
    omega (arith, all, few)

-- All seats, and all processors

module _ (g : Course) (w : Workers) (back : AreBack g w) where
  abbrev rs : List Reader
  rs = w.readers.items

  abbrev seats : List (SeatView LeaseView)
  seats = map (λ (r : Reader). r.seat) rs

  abbrev cpus : List (CpuView Unit)
  cpus = map (λ (r : Reader). r.cpu) rs

  -- a reader that stands where there is none
  abbrev nobody : Reader
  nobody = record { cpu = w.updater.cpu; seat = new_seat g.desk 0; opened = 0; closed = 0 }

  seats_long : length seats ≡ length rs
  seats_long = length-map rs (λ (r : Reader). r.seat)

  cpus_long : length cpus ≡ length rs
  cpus_long = length-map rs (λ (r : Reader). r.cpu)

  pub all_seats : AreAllSeats g.desk seats
  all_seats = record {
    of_desk = λ i v lt.
        let inside : i < length rs = (let n = seats_long in omega (arith, lt, n)) in
        ap (λ (z : SeatView LeaseView). z.desk) (get_or-map (λ (r : Reader). r.seat) rs i nobody v inside) ∙ (back.each i nobody inside).is.desk;
    each = λ number lt.
        let inside : number < length rs = (let n = back.many in omega (arith, lt, n)) in
        let there : number < length seats = (let n = seats_long in omega (arith, inside, n)) in
        let b = back.each number nobody inside in (
          number,
          (let n = length-map seats (λ (v : SeatView LeaseView). v.number) in omega (arith, there, n)),
          get_or-map (λ (v : SeatView LeaseView). v.number) seats number nobody.seat number there
              ∙ (ap (λ (z : SeatView LeaseView). z.number) (get_or-map (λ (r : Reader). r.seat) rs number nobody nobody.seat inside) ∙ (b.is.number ∙ b.number_is)),
        );
  }

  -- the processor of a reader, at the place of its number
  abbrev IsPlaced : ℕ → CpuView Unit → Type 0
  IsPlaced k c = IsOf g.domain c × (c.cpu.processor ≡ k)

  placed : (k : ℕ) (c : CpuView Unit) → k < length cpus → IsPlaced k (get_or cpus k c)
  placed k c lt =
      let inside : k < length rs = (let n = cpus_long in omega (arith, lt, n)) in
      let b = back.each k nobody inside in
      subst (IsPlaced k) (sym (get_or-map (λ (r : Reader). r.cpu) rs k nobody c inside)) (b.is.here, b.number_is)

  module _ (many : g.domain.processors ≡ g.desk.seats + 1) (ended : ℕ) (u : CpuView Unit) (ends : EndsSections ended w.updater.cpu u) (all : List (CpuView Unit)) (all_are : all ≡ cpus ++ u ∷ []) where
    u_placed : IsPlaced (length cpus) u
    u_placed = (
      ends.stays g.domain back.updater.is.here,
      (let p = ends.processor in let last = back.last in let n = back.many in let long = cpus_long in omega (arith, p, last, n, long)),
    )

    each_placed : (k : ℕ) (c : CpuView Unit) → k < length all → IsPlaced k (get_or all k c)
    each_placed = placing.each_pushed IsPlaced cpus all u all_are placed u_placed

    pub all_here : Each (IsOf g.domain) all
    all_here k c lt = (each_placed k c lt).0

    all_long : length all ≡ length cpus + 1
    all_long = ap length all_are ∙ length-append cpus (u ∷ [])

    places : AreInPlace g.domain all
    places = record {
      count = (let n = all_long in let long = cpus_long in let r = back.many in omega (arith, n, long, r, many));
      here = all_here;
      number = λ k c lt. (each_placed k c lt).1;
    }

    pub opened_in_all : sum_by (λ c. opened_in c.cpu.mine) all ≡ opened_by rs
    opened_in_all =
        let cut = ap (sum_by (λ (c : CpuView Unit). opened_in c.cpu.mine)) all_are ∙ sum_by_push (λ (c : CpuView Unit). opened_in c.cpu.mine) cpus u in
        let own = sum_map (λ (c : CpuView Unit). opened_in c.cpu.mine) (λ (r : Reader). r.cpu) rs ∙ sum_same (λ (r : Reader). opened_in r.cpu.cpu.mine) (λ (r : Reader). r.opened) rs (λ i d lt. (back.each i d lt).tells.opened) in
        let none = ends.opened ∙ back.updater.tells.opened in
        omega (arith, cut, own, none)

    pub closed_in_all : sum_by (λ c. closed_in c.cpu.mine) all ≡ closed_by rs + ended
    closed_in_all =
        let cut = ap (sum_by (λ (c : CpuView Unit). closed_in c.cpu.mine)) all_are ∙ sum_by_push (λ (c : CpuView Unit). closed_in c.cpu.mine) cpus u in
        let own = sum_map (λ (c : CpuView Unit). closed_in c.cpu.mine) (λ (r : Reader). r.cpu) rs ∙ sum_same (λ (r : Reader). closed_in r.cpu.cpu.mine) (λ (r : Reader). r.closed) rs (λ i d lt. (back.each i d lt).tells.closed) in
        let last = ends.closed in
        let none = back.updater.tells.closed in
        omega (arith, cut, own, last, none)

    -- all but the last one have done nothing at the tally words
    abbrev IsIdle : ℕ → CpuView Unit → Type 0
    IsIdle k c = k < length rs → c.calls.seen ≡ []

    idle_cpus : (k : ℕ) (c : CpuView Unit) → k < length cpus → IsIdle k (get_or cpus k c)
    idle_cpus k c lt inside = ap (λ (x : CpuView Unit). x.calls.seen) (get_or-map (λ (r : Reader). r.cpu) rs k nobody c inside) ∙ (back.each k nobody inside).tells.idle

    idle_all : (k : ℕ) (c : CpuView Unit) → k < length all → IsIdle k (get_or all k c)
    idle_all = placing.each_pushed IsIdle cpus all u all_are idle_cpus (λ lt. absurd (let long = cpus_long in omega (arith, lt, long)))

    idle_but : (k : ℕ) (c : CpuView Unit) → k < length rs → (get_or all k c).calls.seen ≡ []
    idle_but k c lt = idle_all k c (let n = all_long in let long = cpus_long in omega (arith, lt, n, long)) lt

    u_last : get_or all (length rs) u ≡ u
    u_last = ap (λ (l : List (CpuView Unit)). get_or l (length rs) u) all_are ∙ (ap (λ k. get_or (cpus ++ u ∷ []) k u) (sym cpus_long) ∙ get_or-append_seam cpus u [] u)

    behind : g.domain.processors ≡ length rs + 1
    behind = let n = back.many in omega (arith, n, many)

    module _ (course : IsCourse g) (some : 1 ≤ g.desk.seats) (t : RaceTotals) (opened : t.opened ≡ opened_by rs) (closed : t.closed ≡ closed_by rs + ended) (queued : t.queued ≡ w.updater.queued) (finished : t.finished ≡ w.updater.finished) where
      agrees : (d : domain.Totals) → IsTakenDown g.domain all d → Agrees t d
      agrees d down =
          let first : 0 < length rs = (let n = back.many in omega (arith, n, some)) in
          let calls = ends.calls in
          let own = back.updater.tells.calls in
          let p : u.calls.processor ≡ w.updater.cpu.calls.processor = ap (λ (s : CallSeatView Unit). s.processor) calls in
          let all_queued : d.queued ≡ w.updater.queued =
          queued_told g.domain all d down places (length rs) first behind idle_but u u_last
          ∙ (ap (λ (s : CallSeatView Unit). queued_in s.processor (own_deeds s)) calls ∙ own.queued_are) in
          let all_finished : d.finished ≡ finished_in w.updater.cpu.calls.processor (own_deeds w.updater.cpu.calls) =
          finished_told g.domain all d down places (length rs) first behind idle_but u u_last (λ q ne. ap (λ (s : CallSeatView Unit). finished_in q (own_deeds s)) calls ∙ own.others q (λ e. ne (e ∙ sym p)))
          ∙ ap (λ (s : CallSeatView Unit). finished_in s.processor (own_deeds s)) calls in
          let same = all_told g.domain all d down places (length rs) first behind idle_but u u_last in
          let few = back.updater.queued in
          let fewer = back.updater.versions in
          let most = course.few in
          let told = own.finished_are (omega (arith, all_queued, all_finished, same, few, fewer, most)) in
          let o = opened_told g.domain all d down places in
          let oo = opened_in_all in
          let c = closed_told g.domain all d down places in
          let cc = closed_in_all in record {
            opened = omega (arith, o, oo, opened);
            closed = omega (arith, c, cc, closed);
            queued = omega (arith, all_queued, queued);
            finished = omega (arith, all_finished, told, finished);
          }

      told : {X : Type 0} (P : X → Type 0) (r : Result domain.Totals X) → MatchResult r (λ d. IsTakenDown g.domain all d) P → IfSome (result_ok r) (Agrees t)
      told P (Ok d) down = agrees d down
      told P (Err x) h = tt

      pub counts_are : (desk : ClosesDesk g.desk seats ended) → t.versions ≡ w.updater.versions → {X : Type 0} (P : X → Type 0) (r : Result domain.Totals X) → MatchResult r (λ d. IsTakenDown g.domain all d) P → t.domain ≡ result_ok r → AreCounts g.rounds t
      counts_are desk versions P r answer is =
          let whole = opened_closed g rs back.many back.each desk.left desk.closes in
          let one = desk.one in
          let bits = one_bit desk.left in
          let few = back.updater.queued in
          let fewer = back.updater.versions in record {
            closed = omega (arith, whole, one, bits, opened, closed);
            versions = omega (arith, versions, fewer);
            queued = omega (arith, versions, few, queued);
            domain = subst (λ o. IfSome o (Agrees t)) (sym is) (told P r answer);
          }
