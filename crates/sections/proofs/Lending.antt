-- From what a step on a key tells a seat to what a caller sees.
use Rattle.std.specs.Prelude.{MatchOption}
use Rattle.std.proofs.Common.{◌≡◌, Bool, ◌&&◌, cond, ℕ, ◌+◌, ◌*◌, ◌/◌, ◌%◌, List, [], ◌∷◌, All, Option, Some, None, length, refl, sym, ap, ◌∙◌, subst, inl, inr, eq-eqb, arith}
use Rattle.std.proofs.lemmas.List.Elements.{All-head, All-tail}
use Rattle.std.specs.Arc.{arc_value}
use mathlib.Core.Logic.{dite}
use native.Mathlib.Decide.{ℕ_discrete}
use Rattle.atomic_table.specs.Seated.{TableId}
use Rattle.sseq.specs.declared.index.Index.{Index}
use Rattle.onedom.specs.declared.event.Maker.TheVariants.{Processor}
use Rattle.onedom.specs.Histories.{HasFound}
use Rattle.sections.specs.Glossary.{Bounds, Lent, Moment, Right, View, In, drop_first, is_held, locks, open_readings, IsStart, IsKnown, offer_of, is_unit, lent, units_in, GoesOn, moment_of, steps_of, lacking, bearer, CpuView, ReadingView, FoundView, DomainSeat, IsAtRest, section_of, view_of_cpu, IsCpu, view_of_found, IsFound, EndsWithBegin, IsPinned, KnowsOffer, HasUnit, LeavesFew, CatchesIn, DrawsIn, PaysIn, offer_found, OffersBy, LacksParts}
use Rattle.sections.specs.declared.view.Role.TheVariants.{Cpu}
use Rattle.sections.specs.declared.view.Right.TheVariants.{Section}
use Rattle.sections.specs.declared.cpu.Cpu.TheInside as cpu
use Rattle.sections.specs.declared.cpu.pins.Found.TheInside as found
use Rattle.parts.specs.declared.part.Part.{Part}
use Rattle.sections.specs.Loans.{CatchesUp}
use Rattle.sections.proofs.Drawing.{none_at}
use Rattle.sections.proofs.CpuViews.{seen_as, history_of}
use Rattle.sections.proofs.Pinning.{lent as lent_as}
use Rattle.sections.proofs.Staying.{stays}

-- what was found, as its fields and as a caller see it
pub pinned_at : {d : TableId} {s : ℕ} {f g : FoundView} → g ≡ f → (f.domain ≡ d) × HasFound f.seen s f.cell f.slot f.version → (g.domain ≡ d) × HasFound g.seen s g.cell g.slot g.version
pinned_at {d} {s} same = subst (λ (z : FoundView). (z.domain ≡ d) × HasFound z.seen s z.cell z.slot z.version) (sym same)

pub offers_as : {m n : ℕ} {vault : TableId} {f g : FoundView} → m ≡ n → f ≡ g → OffersBy n vault g → OffersBy m vault f
offers_as {vault = v} count found h = subst (λ (z : ℕ × FoundView). OffersBy z.0 v z.1) (λ k. (sym count k, sym found k)) h

pub catches_as : {r s : ReadingView} {f g : FoundView} {c e d : CpuView} → r ≡ s → f ≡ g → c ≡ e → CatchesUp r f c d → CatchesUp s g e d
catches_as {d = d} section found before = subst (λ (z : ReadingView × FoundView × CpuView). CatchesUp z.0 z.1 z.2 d) (λ n. (section n, found n, before n))

module _ {t : found.Inside} {lender : DomainSeat} (b : IsFound t) (pinned : (t.seat.table_id ≡ lender.table_id) × HasFound t.seat.me.0.seen (section_of lender.me.0.right) t.cell t.slot t.version) where
  -- the finder's seat knows what the version offers
  pub knows_offer : {bounds : Bounds} {table vault : TableId} → lender.table_id ≡ table → OffersBy bounds.processors vault (view_of_found t) → KnowsOffer bounds table vault lender (8 * t.cell + t.slot) t.seat
  knows_offer here offers = let lx = b.slot in let c : ℕ = t.cell in let x : ℕ = t.slot in let n : ℕ = t.version in
      let cc : (8 * c + x) / 8 ≡ c = omega (arith, lx) in let xx : (8 * c + x) % 8 ≡ x = omega (arith, lx) in record {
        seated = pinned.0 ∙ here;
        bare = b.bare;
        free = b.free;
        version = n;
        offer = offer_of c n t.seat.me.0.texts;
        met = λ s q i us right. subst (λ (z : ℕ × ℕ × ℕ). HasFound t.seat.me.0.seen z.0 z.1 z.2 n) (λ k. (ap section_of right k, sym cc k, sym xx k)) pinned.1;
        known = subst (λ z. IsKnown z n t.seat.me.0.texts) (sym cc) b.known;
        offer_is = ap (λ z. offer_of z n t.seat.me.0.texts) cc;
        all_keys = offers.0;
        vault_is = offers.1;
      }

  module _ {A : Type 0} {c : cpu.Inside A} (i : IsCpu c) {seat lender' : DomainSeat} (h : CatchesIn c.seat lender t.seat seat lender') where
    cut : seat.me.0 ≡ lacking h.after
    cut = ap (λ m. m.0) h.stays

    mine_as : seat.me.0.mine ≡ c.seat.me.0.mine
    mine_as = ap (λ (z : View). z.mine) cut ∙ h.catches.mine

    pub catches_cpu : IsCpu (record c { seat = seat })
    catches_cpu = stays i h.same_table.0 (ap (λ m. m.1) h.stays) (subst (λ (z : View). IsAtRest z) (sym cut) record { free = refl; told = h.catches.told; sound = h.catches.sound }) (ap (λ (z : View). z.processors) cut ∙ h.catches.processors) (ap (λ (z : View). z.role) cut ∙ h.catches.role)
        (λ k. ap (locks c.processor k) mine_as) (ap (λ l. length (open_readings l)) mine_as)

    pub catches_up : {p : ℕ} {k : Index} → CatchesUp (lent_as lender p k) (view_of_found t) (view_of_cpu c) (view_of_cpu (record c { seat = seat }))
    catches_up {p} {k} =
        let w : View = h.after in
        let n : ℕ = (arc_value c.table).shared.key.processors in
        let u : Moment = moment_of (bearer lender.me.0) in
        let o : Moment = moment_of (bearer t.seat.me.0) in
        let told : List Moment = c.seat.me.0.told in
        let behind : All (λ m. GoesOn m (moment_of w)) (o ∷ told) = All-tail (λ m. GoesOn m (moment_of w)) u (o ∷ told) h.catches.covers in
        let found : GoesOn o (moment_of w) = All-head (λ m. GoesOn m (moment_of w)) o told behind in
        subst (λ (z : View). CatchesUp (lent_as lender p k) (view_of_found t) (seen_as c.seat.table_id n c.limit c.processor c.seat.me.0) (seen_as seat.table_id n c.limit c.processor z)) (sym cut) (record {
          same = (h.same_table.0, refl, refl, refl);
          mine = h.catches.mine;
          steps = ap (steps_of (Processor c.processor)) h.catches.done;
          since = h.catches.since;
          later = h.catches.later;
          texts_since = h.catches.texts.since;
          history = history_of n c.processor w (h.catches.processors ∙ i.placed.sized) (h.catches.role ∙ i.role) h.catches.sound;
          covers_section = (All-head (λ m. GoesOn m (moment_of w)) u (o ∷ told) h.catches.covers).history;
          covers = found.history;
          not_before = found.changes;
          texts = All-head (λ m. IsStart m.texts w.texts) o told (All-tail (λ m. IsStart m.texts w.texts) u (o ∷ told) h.catches.texts.covers);
        })

-- What the lender's seat is then
module _ {seat lender found seat' lender' : DomainSeat} {p : ℕ} {k : Index} {vs : List Lent} (h : CatchesIn seat lender found seat' lender') (now : lender'.me.0.right ≡ Section (section_of lender.me.0.right) p k vs None) where
  same_section : section_of lender'.me.0.right ≡ section_of lender.me.0.right
  same_section = ap section_of now

  pub same_lender : lent_as lender' p k ≡ lent_as lender p k
  same_lender = λ n. record {
    domain = h.same_table.1 n;
    section = same_section n;
    processor = p;
    index = k;
    seen = ap (λ m. m.0.seen) h.returned n;
    changes = ap (λ m. m.0.changes) h.returned n;
  }

  pub still_bare : lender.me.1 ≡ [] → lender'.me.1 ≡ []
  still_bare bare = ap (λ m. m.1) h.returned ∙ bare

  pub still_begun : EndsWithBegin (lent_as lender p k) → EndsWithBegin (lent_as lender' p k)
  still_begun = subst (λ (r : ReadingView). EndsWithBegin r) (sym same_lender)

  pub still_of_kind : {b : Bool} → is_held (section_of lender.me.0.right) ≡ b → is_held (section_of lender'.me.0.right) ≡ b
  still_of_kind is = ap is_held same_section ∙ is

  pub still_pinned : {f g : FoundView} → g ≡ f → IsPinned (lent_as lender p k) f → IsPinned (lent_as lender' p k) g
  still_pinned same = subst (λ (z : ReadingView × FoundView). IsPinned z.0 z.1) (λ n. (sym same_lender n, sym same n))

-- with nothing out, and with one part out
pub right_free : {r : Right} {s p : ℕ} {k : Index} → r ≡ Section s p k [] None → r ≡ Section (section_of r) p k [] None
right_free {r} {s} {p} {k} now = now ∙ (λ j. Section (sym (ap section_of now) j) p k [] None)

pub right_lent : {r : Right} {s p y n : ℕ} {k : Index} {f g : FoundView} → g ≡ f → y ≡ 8 * f.cell + f.slot → n ≡ (offer_found f).round → r ≡ Section s p k (lent s y n ∷ []) None → r ≡ Section (section_of r) p k (lent (section_of r) (8 * g.cell + g.slot) (offer_found g).round ∷ []) None
right_lent {r} {s} {p} {y} {n} {k} same slot round now = now ∙ (λ j. let t : ℕ = sym (ap section_of now) j in
    Section t p k (lent t ((slot ∙ sym (ap (λ (z : FoundView). 8 * z.cell + z.slot) same)) j) ((round ∙ sym (ap (λ (z : FoundView). (offer_found z).round) same)) j) ∷ []) None)

pub same_found : (t : found.Inside) (s : DomainSeat) → (s.table_id ≡ t.seat.table_id) × (s.me ≡ t.seat.me) → view_of_found (record t { seat = s }) ≡ view_of_found t
same_found t s same = λ n. record { domain = same.0 n; cell = t.cell; slot = t.slot; version = t.version; seen = (same.1 n).0.seen; changes = (same.1 n).0.changes; texts = (same.1 n).0.texts }

-- Drawing

module _ {t : found.Inside} {lender : DomainSeat} (b : IsFound t) (pinned : (t.seat.table_id ≡ lender.table_id) × HasFound t.seat.me.0.seen (section_of lender.me.0.right) t.cell t.slot t.version)
    {X : Type 0} {seat seat' lender' : DomainSeat} {p : ℕ} {k : Index} {us : List Lent} {result : Option (Part X)} (d : DrawsIn (8 * t.cell + t.slot) seat lender t.seat seat' lender' result) (right : lender.me.0.right ≡ Section (section_of lender.me.0.right) p k us None) where
  -- of this cell, what the version offers
  abbrev Drawn : ℕ → Option (Part X) → Type 0
  Drawn c z = MatchOption z ((lender'.me.0.right ≡ Section (section_of lender.me.0.right) p k us None) × LeavesFew (8 * t.cell + t.slot) (offer_of c t.version t.seat.me.0.texts) seat'.me.0)
      (λ part. (part.count ≡ 1) × (part.round ≡ (offer_of c t.version t.seat.me.0.texts).round) × (lender'.me.0.right ≡ Section (section_of lender.me.0.right) p k (lent (section_of lender.me.0.right) (8 * t.cell + t.slot) (offer_of c t.version t.seat.me.0.texts).round ∷ us) None))

  draws : Drawn t.cell result
  draws = let c : ℕ = t.cell in let x : ℕ = t.slot in let lx = b.slot in
      let cc : (8 * c + x) / 8 ≡ c = omega (arith, lx) in let xx : (8 * c + x) % 8 ≡ x = omega (arith, lx) in
      subst (λ (z : ℕ). Drawn z result) cc (d.draws (section_of lender.me.0.right) p t.version k us right
      (subst (λ (z : ℕ × ℕ). HasFound t.seat.me.0.seen (section_of lender.me.0.right) z.0 z.1 t.version) (λ n. (sym cc n, sym xx n)) pinned.1)
      (subst (λ (z : ℕ). IsKnown z t.version t.seat.me.0.texts) (sym cc) b.known))

  pub drawn : {part : Part X} → result ≡ Some part → (part.count ≡ 1) × (part.round ≡ (offer_found (view_of_found t)).round) × (lender'.me.0.right ≡ Section (section_of lender.me.0.right) p k (lent (section_of lender.me.0.right) (8 * t.cell + t.slot) (offer_found (view_of_found t)).round ∷ us) None)
  drawn is = subst (λ (z : Option (Part X)). Drawn t.cell z) is draws

  pub undrawn : result ≡ None → lender'.me.0.right ≡ Section (section_of lender.me.0.right) p k us None
  undrawn is = (subst (λ (z : Option (Part X)). Drawn t.cell z) is draws).0

  -- and then fewer than two parts were there
  pub lacks : {A : Type 0} (c : cpu.Inside A) → result ≡ None → seat'.me.0.role ≡ Cpu c.processor → LacksParts (view_of_found t) (view_of_cpu (record c { seat = seat' }))
  lacks c is role =
      let few = (subst (λ (z : Option (Part X)). Drawn t.cell z) is draws).1 in
      let most = few.few in
      dite (ℕ_discrete few.count 0)
      (λ none. inl (none_at c.processor (offer_found (view_of_found t)).each few.count (few.some c.processor role) none))
      (λ some. inr (few.left ∙ ap (λ n. Some (record { slot = 8 * t.cell + t.slot; count = n })) (omega (arith, most, some))))

-- Paying

-- the newest part that is out is this one
pub has_unit : {right : Right} {s p y n z round : ℕ} {k : Index} {us : List Lent} → right ≡ Section s p k (lent s y n ∷ us) None → y ≡ z → n ≡ round → HasUnit z round right
has_unit {s = s} {y = y} {n = n} right slot same = (lent s y n, subst (In (lent s y n)) (sym (ap units_in right)) (inl refl), slot, same)

pub left_over : (s y n z round : ℕ) (us : List Lent) → y ≡ z → n ≡ round → drop_first (is_unit z round) (lent s y n ∷ us) ≡ us
left_over s y n z round us slot same = λ j. cond (eq-eqb y z slot j && eq-eqb n round same j) us (lent s y n ∷ drop_first (is_unit z round) us)

module _ {seat lender found seat' lender' : DomainSeat} {z round p y n : ℕ} {k : Index} {us : List Lent} (d : PaysIn z round seat lender found seat' lender') (right : lender.me.0.right ≡ Section (section_of lender.me.0.right) p k (lent (section_of lender.me.0.right) y n ∷ us) None) where
  pub paid_back : y ≡ z → n ≡ round → lender'.me.0.right ≡ Section (section_of lender.me.0.right) p k us None
  paid_back slot same = d.pays _ _ _ _ right ∙ (λ j. Section (section_of lender.me.0.right) p k (left_over (section_of lender.me.0.right) y n z round us slot same j) None)
