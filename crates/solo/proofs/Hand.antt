-- All processors in one hand: how the domain is seen, and what an act of one of them leaves as it was.
use Rattle.std.proofs.Common.{◌≡◌, ℕ, ◌<◌, List, [], ◌∷◌, length, get_or, set, sym, ap, ◌∙◌, subst, arith, length-set, get_or-set_other, get_or-set_same}
use Rattle.solo.proofs.Words.{Option, Some, Result, Ok, Err, MatchResult, MatchOption, None, dite, ℕ_discrete, TableId, Limits, most_processors, WriterView, cells_in, CellView, cell_of, IsCellIn, IsSameCpu, greatest, IsSameSeat, lies, DomainView, CpuView, IsOf, Stays, Act, Acts, IsAllOf, SoloView}
use Rattle.solo.proofs.Words.{View, HaveMet, Line, queued_on, finished_on, lines_on, seen_as, seen_with, seen_first}
use Rattle.funnel.specs.declared.view.Holder.TheVariants.{Processor}

-- how it is seen

-- whatever the answer is
pub either : {T E K : Type 0} {P : T → Type 0} {Q : E → Type 0} (r : Result T E) → MatchResult r P Q → ((x : T) → P x → K) → ((e : E) → Q e → K) → K
either (Ok x) h ok err = ok x h
either (Err e) h ok err = err e h

pub either_way : {T K : Type 0} {N : Type 0} {S : T → Type 0} (o : Option T) → MatchOption o N S → (N → K) → ((x : T) → S x → K) → K
either_way None h none some = none h
either_way (Some x) h none some = some x h

-- a view of a writer's cell is one of a cell of the writer's domain
pub in_its_cell : {table d : TableId} {v : CellView} (w : WriterView) → table ≡ d → v ≡ cell_of w → w.domain ≡ table → w.cell < cells_in table → IsCellIn d v
in_its_cell w same is here low = (ap (λ (x : CellView). x.domain) is ∙ (here ∙ same), (let cell = ap (λ (x : CellView). x.cell) is in let cells = ap cells_in same in omega (arith, low, cell, cells)))

module _ {J : Type 0} where
  with_lying : (d : DomainView) (limits : Limits) (asked : ℕ) (queued finished : List ℕ) (lines : List (Line J)) (lay : Option View) (v : View) → lay ≡ Some v → seen_with d limits asked queued finished lines lay ≡ seen_as d.tallies limits asked queued finished lines v
  with_lying d limits asked queued finished lines lay v is = ap (seen_with d limits asked queued finished lines) is

  pub first_seen : (d : DomainView) (limits : Limits) (cpus : List (CpuView J)) (v : View) (asked : ℕ) → 0 < length cpus → ((c : CpuView J) → lies (get_or cpus 0 c).turn ≡ Some v) → ((c : CpuView J) → greatest (get_or cpus 0 c).needs.seen ≡ asked) → seen_first d limits cpus ≡ seen_as d.tallies limits asked (queued_on cpus) (finished_on cpus) (lines_on cpus) v
  first_seen d limits [] v asked some lying needs = absurd (omega (arith, some))
  first_seen d limits (c ∷ cpus) v asked some lying needs = with_lying d limits (greatest c.needs.seen) (queued_on (c ∷ cpus)) (finished_on (c ∷ cpus)) (lines_on (c ∷ cpus)) (lies c.turn) v (lying c) ∙ ap (λ n. seen_as d.tallies limits n (queued_on (c ∷ cpus)) (finished_on (c ∷ cpus)) (lines_on (c ∷ cpus)) v) (needs c)

  module _ (d : DomainView) (limits : Limits) (cpus : List (CpuView J)) (v : View) (met : HaveMet d limits cpus v) where
    -- as it is said: with the engine that lies there, what was asked for, and all calls
    abbrev pub view : SoloView J
    view = seen_as d.tallies limits (greatest met.raises) (queued_on cpus) (finished_on cpus) (lines_on cpus) v

    pub is_seen : seen_first d limits cpus ≡ view
    is_seen = first_seen d limits cpus v (greatest met.raises) met.all.some met.turn_together.lying (λ c. ap greatest (met.ask_together.seen 0 c met.all.some))

    module _ (now : SoloView J) (same : seen_first d limits cpus ≡ now) where
      pub now_is : now ≡ view
      now_is = sym same ∙ is_seen

      -- a processor that the caller may name
      pub is_inside : (p : ℕ) → p < now.course.standing.processors → p < length cpus
      is_inside p small = let n = ap (λ (x : SoloView J). x.course.standing.processors) now_is in let all = met.together.hold.all in omega (arith, small, n, all)

      -- a token of the domain is one of the processor's domain
      pub is_its_own : (p : ℕ) (c : CpuView J) (table : TableId) → p < length cpus → c ≡ get_or cpus p c → table ≡ now.table → table ≡ c.cpu.domain
      is_its_own p c table inside is own =
          own ∙ (ap (λ (x : SoloView J). x.table) now_is ∙ sym (ap (λ (x : CpuView J). x.cpu.domain) is ∙ (met.together.hold.each p c inside).domain))

    pub first_inside : 0 < length cpus
    first_inside = met.all.some

    pub here : (p : ℕ) (c : CpuView J) → p < length cpus → c ≡ get_or cpus p c → IsOf d c
    here p c inside is = subst (λ (z : CpuView J). IsOf d z) (sym is) (met.all.here p c inside)

  -- an act of one of them

  -- it is still this processor of the domain, with its seat at the tree
  pub record IsStill (d : DomainView) (was now : CpuView J) : Type 0 where
    pub is_of : IsOf d now
    pub cpu : IsSameCpu was.cpu now.cpu
    pub needs : IsSameSeat was.needs now.needs

  module _ (cpus : List (CpuView J)) (p : ℕ) (now : CpuView J) (inside : p < length cpus) where
    -- what holds of all, with one in the place of another
    each_still : (P : ℕ → CpuView J → Type 0) → ((k : ℕ) (c : CpuView J) → k < length cpus → P k (get_or cpus k c)) → P p now → (k : ℕ) (c : CpuView J) → k < length (set cpus p now) → P k (get_or (set cpus p now) k c)
    each_still P old new k c lt = dite (ℕ_discrete k p)
        (λ same. subst (λ q. P q (get_or (set cpus p now) q c)) (sym same) (subst (P p) (sym (get_or-set_same cpus p now c inside)) new))
        (λ other. subst (P k) (sym (get_or-set_other cpus p k now c other)) (old k c (omega (arith, length-set cpus p now, lt))))

    pub all_still : (d : DomainView) (was : CpuView J) → IsAllOf d cpus → was ≡ get_or cpus p was → IsStill d was now → IsAllOf d (set cpus p now)
    all_still d was all is still = record {
      some = (let some = all.some in omega (arith, length-set cpus p now, some));
      here = each_still (λ k z. IsOf d z) all.here still.is_of;
      count = each_still (λ k z. z.cpu.processors ≡ length (set cpus p now)) (λ k c lt. all.count k c lt ∙ sym (length-set cpus p now)) (still.cpu.1 ∙ (ap (λ (z : CpuView J). z.cpu.processors) is ∙ (all.count p was inside ∙ sym (length-set cpus p now))));
      order = each_still (λ k z. z.cpu.processor ≡ k) all.order (still.cpu.3 ∙ (ap (λ (z : CpuView J). z.cpu.processor) is ∙ all.order p was inside));
      tree = all.tree;
      shape = all.shape;
      asks = each_still (λ k z. (z.needs.domain ≡ all.tree) × (z.needs.shape ≡ all.shape) × (z.needs.holder ≡ Processor k)) all.asks (
        still.needs.domain ∙ (ap (λ (z : CpuView J). z.needs.domain) is ∙ (all.asks p was inside).0),
        still.needs.shape ∙ (ap (λ (z : CpuView J). z.needs.shape) is ∙ (all.asks p was inside).1),
        still.needs.holder ∙ (ap (λ (z : CpuView J). z.needs.holder) is ∙ (all.asks p was inside).2),
      );
      leaves = all.leaves ∙ sym (length-set cpus p now);
    }

  -- the vector has as many
  pub in_vector : (n : ℕ) (items : List (CpuView J)) (p : ℕ) → n ≡ length items → p < length items → p < n
  in_vector n items p same inside = omega (arith, same, inside)

  -- A processor that is called

  module _ {d : DomainView} {limits : Limits} {cpus : List (CpuView J)} {v : View} {s : SoloView J} (met : HaveMet d limits cpus v) (seen : seen_first d limits cpus ≡ s) where
    -- its table
    pub own_table : s.table ≡ d.domain
    own_table = ap (λ (x : SoloView J). x.table) (now_is d limits cpus v met s seen) ∙ by_first cpus met
      where
        by_first : (all : List (CpuView J)) → HaveMet d limits all v → v.seat.domain ≡ d.domain
        by_first [] m = let some = m.all.some in absurd (omega (arith, some))
        by_first (c ∷ rest) m = sym (m.together.hold.each 0 c m.all.some).domain ∙ (m.all.here 0 c m.all.some).domain

    pub own_tallies : s.tallies ≡ d.tallies
    own_tallies = ap (λ (x : SoloView J). x.tallies) (now_is d limits cpus v met s seen)

    pub first_small : 0 < s.course.standing.processors
    first_small = let n = ap (λ (x : SoloView J). x.course.standing.processors) (now_is d limits cpus v met s seen) in let all = met.together.hold.all in let some = met.all.some in omega (arith, n, all, some)

    module _ {p : ℕ} (small : p < s.course.standing.processors) where
      placed : p < length cpus
      placed = is_inside d limits cpus v met s seen p small

      pub in_items : (n : ℕ) → n ≡ length cpus → p < n
      in_items n same = in_vector n cpus p same placed

      -- the domain has as many processors as are in hand
      pub in_domain : p < d.processors
      in_domain = by_place cpus met placed
        where
          by_place : (all : List (CpuView J)) → HaveMet d limits all v → p < length all → p < d.processors
          by_place [] m inside = absurd (omega (arith, inside))
          by_place (c ∷ rest) m inside = let many = (m.all.here p c inside).many in let count = m.all.count p c inside in omega (arith, many, count, inside)

      -- there are so few that the number of each has room
      pub in_room : p < most_processors
      in_room = let inside = placed in let all = met.together.hold.all in let most = met.together.hold.count.1 in omega (arith, all, most, inside)

      module _ {was : CpuView J} (is : was ≡ get_or cpus p was) where
        pub lent : IsOf d was
        lent = here d limits cpus v met p was placed is

        pub of_table : (table : TableId) → table ≡ s.table → table ≡ was.cpu.domain
        of_table table own = is_its_own d limits cpus v met s seen p was table placed is own

        pub of_number : (q : ℕ) → q ≡ p → q ≡ was.cpu.processor
        of_number q same = same ∙ sym (ap (λ (x : CpuView J). x.cpu.processor) is ∙ (met.together.hold.each p was placed).processor)

        -- behind its call all are there
        module _ {now : CpuView J} where
          pub all_stay : IsOf d now → IsSameCpu was.cpu now.cpu → IsSameSeat was.needs now.needs → IsAllOf d (set cpus p now)
          all_stay of cpu needs = all_still cpus p now placed d was met.all is (record { is_of = of; cpu = cpu; needs = needs })

          pub all_there : {q : ℕ} {a : Act} → Acts q a was now → IsOf d now → IsAllOf d (set cpus p now)
          all_there did of = all_stay of did.events.same did.needs.same

          pub all_here : {q : ℕ} {a : Act} → Acts q a was now → Stays was now → IsAllOf d (set cpus p now)
          all_here did stays = all_there did (stays d lent)
