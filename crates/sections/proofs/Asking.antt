-- A processor takes a token in and asks after a cookie: what is then always true of it, and of a writer whose slot it asked for.
use Rattle.std.proofs.Common.{◌≡◌, ℕ, ◌+◌, ◌^◌, ◌<◌, ◌≤◌, Bool, true, false, List, [], ◌∷◌, ◌++◌, All, count_by, length, get_or, set, refl, sym, ap, ◌∙◌, subst, arith}
use Rattle.std.proofs.lemmas.List.Elements.{All-head}
use Rattle.atomic_table.specs.Seated.{TableId}
use Rattle.onedom.specs.declared.event.Event.{Event}
use Rattle.onedom.specs.declared.event.Event.TheVariants.{Ask}
use Rattle.onedom.specs.declared.event.Maker.TheVariants.{Processor}
use Rattle.onedom.specs.Histories.{IsBeginning, IsClear}
use Rattle.sections.specs.declared.cpu.Cpu.TheInside as cpu
use Rattle.sections.specs.Glossary.{View, Standing, cells_in, GoesOn, moment_of, bearer, shower, informed, Adds, Keeps, DomainSeat, AsksNumber, RefreshesIn, IsAtRest, view_of_cpu, IsCpu, words_with, plan_with, view_of_writer, IsWriter, Asks, is_out, Stands, ReclaimsSlot}
use Rattle.sections.specs.declared.view.Right.TheVariants.{Nothing, Shelf}
use Rattle.sections.specs.declared.writer.Standing.TheVariants.{Blank, Retired}
use Rattle.sections.specs.declared.writer.Writer.TheInside as writer
use Rattle.sections.proofs.CpuViews.{seen_as, asks_from}
use Rattle.sections.proofs.Staying.{maker_of, stays_told}
use Rattle.sections.proofs.Writing.{as_shelf, slot_quiet}
use Rattle.sections.proofs.Standings.{HasHomes, homes_stay, retired_out, stands_quiet, stands_set, reclaimed, count_less}

-- the token has seen what `o` has, and `s` is what the processor's seat is in the end
module _ {A : Type 0} {c : cpu.Inside A} {number : ℕ} {answer : Bool} {joined after : DomainSeat} (i : IsCpu c) (s token : DomainSeat) (o : View)
    (table : joined.table_id ≡ c.seat.table_id) (me : joined.me ≡ (informed c.seat.me.0 token.me.0, c.seat.me.1)) (given : token.me ≡ (o, [])) (n : AsksNumber number joined answer after)
    (same : (s.table_id ≡ after.table_id) × (s.me ≡ after.me)) where
  asked : Adds joined.me.0 (Ask number answer (Processor c.processor)) after.me.0
  asked = n.adds c.processor (ap (λ m. m.0.role) me ∙ i.role)

  pub asks_cpu : o.right ≡ Nothing → IsCpu (record c { seat = s })
  asks_cpu free = stays_told i (same.0 ∙ (n.same_table ∙ table)) (ap (λ m. m.1) same.1 ∙ (n.bare ∙ (ap (λ m. m.1) me ∙ i.placed.bare)))
      (subst (λ (v : View). IsAtRest v) (sym (ap (λ m. m.0) same.1)) record { free = n.right ∙ (ap (λ m. m.0.right) me ∙ (ap (λ m. m.0.right) given ∙ free)); told = asked.told; sound = asked.sound })
      (ap (λ m. maker_of m.0) me) (ap (λ m. maker_of m.0) same.1) asked refl (λ _. refl) (λ _. refl)

  pub asks : Asks o.seen o.changes number answer (view_of_cpu c) (view_of_cpu (record c { seat = s }))
  asks = subst (λ (v : View). Asks o.seen o.changes number answer (view_of_cpu c) (seen_as s.table_id (view_of_cpu c).processors c.limit c.processor v)) (sym (ap (λ m. m.0) same.1))
      (asks_from n.number number answer _ _ _ c.limit c.processor c.seat.me.0 o joined.me.0 after.me.0 (same.0 ∙ (n.same_table ∙ table)) i.placed.sized i.role (ap (λ m. m.0) me ∙ ap (λ m. informed c.seat.me.0 m.0) given) n.finds n.answer_is asked)

-- the writer's cell is loaded behind that
module _ {A : Type 0} {c : cpu.Inside A} {w : writer.Inside} {number : ℕ} {answer : Bool} {joined after pen pen' : DomainSeat} (i : IsCpu c) (h : IsWriter w) (token : DomainSeat) (here : c.seat.table_id ≡ w.seat.table_id) (table : joined.table_id ≡ c.seat.table_id)
    (me : joined.me ≡ (informed c.seat.me.0 token.me.0, c.seat.me.1)) (given : token.me ≡ (shower w.seat.me.0, [])) (n : AsksNumber number joined answer after) (right : pen.me.0.right ≡ w.seat.me.0.right) (r : RefreshesIn w.cell after pen pen') where
  keeps : Keeps w.cell w.seat.me.0.seen (informed (bearer after.me.0) (bearer pen.me.0)) pen'.me.0 × (pen'.me.0.right ≡ Shelf w.cell (words_with w.seat.me.0.right) pen'.me.0.seen (plan_with w.seat.me.0.right))
  keeps = r.keeps (words_with w.seat.me.0.right) w.seat.me.0.seen (plan_with w.seat.me.0.right) (right ∙ h.right)

  home : w.seat.table_id ≡ pen'.table_id
  home = sym (r.same_table ∙ (n.same_table ∙ (table ∙ here)))

  still : (x : ℕ) → x < w.slots → Stands pen'.me.0.seen w.cell x (get_or w.standings x Blank)
  still x lx = stands_quiet w.cell x w.seat.me.0.seen pen'.me.0.seen keeps.0.goes_on keeps.0.legal keeps.0.same _ (h.stands x lx)

  writer_on : (ts : List Standing) → w.version + count_by is_out ts ≤ 2 ^ 54 + 7 → HasHomes w.seat.table_id w.slots ts w.homes → ((x : ℕ) → x < w.slots → Stands pen'.me.0.seen w.cell x (get_or ts x Blank)) → IsWriter (record w { seat = pen'; standings = ts })
  writer_on ts small homes stands = record {
    bare = r.bare;
    right = as_shelf _ w.cell _ pen'.me.0.seen _ keeps.1;
    free = ap (λ y. (plan_with y).hand) keeps.1 ∙ h.free;
    long = ap length (ap words_with keeps.1) ∙ h.long;
    legal = keeps.0.legal;
    inside = subst (λ (t : TableId). w.cell < cells_in t) home h.inside;
    some = h.some;
    most = h.most;
    version = h.version ∙ sym keeps.0.same;
    current = slot_quiet w.cell w.seat.me.0.seen pen'.me.0.seen keeps.0.goes_on keeps.0.legal keeps.0.same ∙ h.current;
    low = h.low;
    small = small;
    homes = subst (λ (t : TableId). HasHomes t w.slots ts w.homes) home homes;
    stands = stands;
  }

  pub writer_waits : IsWriter (record w { seat = pen' })
  writer_waits = writer_on w.standings h.small h.homes still

  pub writer_blanks : {slot : ℕ} → answer ≡ true → slot < w.slots → get_or w.standings slot Blank ≡ Retired number → length w.standings ≡ 8 → IsWriter (record w { seat = pen'; standings = set w.standings slot Blank })
  writer_blanks {slot} is low at eight =
      let asked : Adds joined.me.0 (Ask number answer (Processor c.processor)) after.me.0 = n.adds c.processor (ap (λ m. m.0.role) me ∙ i.role) in
      let told : All (λ m. GoesOn m record { history = asked.before; changes = after.me.0.changes; texts = [] }) (moment_of (shower w.seat.me.0) ∷ c.seat.me.0.told) =
      subst (λ (v : View). All (λ m. GoesOn m record { history = asked.before; changes = after.me.0.changes; texts = [] }) v.told) (ap (λ m. m.0) me ∙ ap (λ m. informed c.seat.me.0 m.0) given) asked.covers in
      let before : IsBeginning w.seat.me.0.seen asked.before = (All-head (λ m. GoesOn m record { history = asked.before; changes = after.me.0.changes; texts = [] }) (moment_of (shower w.seat.me.0)) c.seat.me.0.told told).history in
      let on : IsBeginning (asked.before ++ Ask number true (Processor c.processor) ∷ []) pen'.me.0.seen = subst (λ (l : List Event). IsBeginning l pen'.me.0.seen) (asked.seen ∙ ap (λ (b : Bool). asked.before ++ Ask number b (Processor c.processor) ∷ []) is) keeps.0.since in
      let clear : IsClear pen'.me.0.seen w.cell slot = reclaimed w.cell slot number (Processor c.processor) w.seat.me.0.seen asked.before pen'.me.0.seen (subst (λ (t : Standing). Stands w.seat.me.0.seen w.cell slot t) at (h.stands slot low)) before on keeps.0.legal keeps.0.goes_on keeps.0.same in
      let most = h.most in
      let lx : slot < length w.standings = omega (arith, low, most, eight) in
      let small = h.small in
      let count = count_less w.standings slot lx in
      writer_on (set w.standings slot Blank) (omega (arith, small, count)) (homes_stay w.seat.table_id w.slots slot Blank w.standings w.homes lx (λ o. retired_out (sym at ∙ o)) h.homes) (stands_set pen'.me.0.seen w.cell w.slots w.standings slot Blank lx still clear)

  pub reclaims : {slot : ℕ} (s : DomainSeat) → (s.table_id ≡ after.table_id) × (s.me ≡ after.me) → (ts : List Standing) → (answer ≡ true → ts ≡ set w.standings slot Blank)
      → (answer ≡ false → ts ≡ w.standings) → ReclaimsSlot slot number answer (view_of_writer w) (view_of_cpu c) (view_of_writer (record w { seat = pen'; standings = ts })) (view_of_cpu (record c { seat = s }))
  reclaims {slot} s same ts done waits = record {
    asks = asks i s token (shower w.seat.me.0) table me given n same;
    same = record { domain = sym home; cell = refl; slots = refl; version = refl; current = refl };
    done = done;
    waits = waits;
    words = ap words_with keeps.1;
    plan = ap plan_with keeps.1;
    since = keeps.0.goes_on;
    covers = subst (λ (l : List Event). IsBeginning l pen'.me.0.seen) (sym (ap (λ m. m.0.seen) same.1)) keeps.0.since;
  }
