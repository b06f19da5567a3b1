-- No seat can claim an event that it did not make, a load of the number among them.
use Rattle.std.proofs.Common.{◌≡◌, inr, ℕ, zero, suc, ◌<◌, ◌≤◌, ◌≢◌, Bool, true, false, cond, List, [], ◌∷◌, ◌++◌, All, map, length, take, set, refl, sym, ap, ◌∙◌, subst, ⊎_elim, length-append, arith}
use Rattle.std.proofs.lemmas.List.{take-map, take-append-le}
use Rattle.std.proofs.lemmas.List.Elements.{All-nil, filter_map-append}
use Rattle.std.proofs.Math.Seq.{take-length}
use mathlib.Core.Option.{some}
use lib.ListN.{get_elem?}
use Rattle.atomic_table.specs.Table.{State, Splits, Joins}
use Rattle.atomic_table.proofs.Lists.{set_here, set_else, at_longer, at_last, at_map}
use Rattle.sseq.specs.declared.index.Index.{Index}
use Rattle.onedom.specs.declared.event.Maker.{Maker}
use Rattle.onedom.specs.declared.event.Maker.TheVariants.{Processor, Engine}
use Rattle.onedom.specs.declared.event.Event.{Event}
use Rattle.onedom.specs.declared.event.Event.TheVariants.{Ask}
use Rattle.onedom.specs.Histories.{IsLegal, version_of, MayFollow, maker_of, same_maker, made_by, IsBeginning}
use Rattle.onedom.proofs.CallerLemmas.{version_kept, legal_push, made_by_other, same_maker_refl, same_maker_false, beginning_empty, beginning_refl, beginning_push, beginning_by_length, beginning_made_by}
use Rattle.sections.specs.Glossary.{Slot, Bounds, Role, View, locks, Agree, HasItsMaker, IsProcessor, GoesOn, StandsFor, HasDone, Makes, Has, Fits, Kept, spent, Truth, Right, hand_in, FitsBank, KeepsBanks, Text, put_cell, put_cells, IsStart, AreTextsOf, texts_at, AreShelved, FitsShelf, HasNoTextMore, NoTextIsForged, HasNoEventMore, NoStepIsForged}
use Rattle.sections.specs.declared.view.Role.TheVariants.{Bearer, Cpu, Driver}
use mathlib.Core.Option as maybe
use Rattle.sections.proofs.Banking.{one_later, reseat_banks, bank_free}
use Rattle.sections.proofs.Shelving.{start_at, start_trans, start_between, same_shelf, shelved_on, fits_shelf_on, loaded_later}
use Rattle.sections.proofs.Agreement.{agrees_plain}
use Rattle.sections.proofs.Counters.{All-push, locks_push}
use Rattle.sections.proofs.Deeds.{done_later}
use Rattle.sections.proofs.Knowing.{now, at_snoc, at_below, given, given_here, given_else, seat_at, has_stays, fits_stay, false≠true}
use Rattle.sections.proofs.Forging.{from_map, length_map, stands, not_standing, others, no_step_by_split, no_step_by_join}

-- the texts of a beginning are those of the Puts there
texts_seen : (texts : List Text) (seen log : List Event) → IsBeginning seen log → AreTextsOf texts log → AreTextsOf (texts_at texts seen) seen
texts_seen texts seen log b h = sym (take-map (λ t. t.cell) (length (put_cells seen)) texts)
    ∙ (ap (take (length (put_cells seen))) (h ∙ (ap put_cells b.whole ∙ filter_map-append put_cell seen b.rest)) ∙ (take-append-le (length (put_cells seen)) (put_cells seen) (put_cells b.rest) (omega arith) ∙ take-length (put_cells seen)))

-- Events of one maker

made_twice : (m : Maker) (log : List Event) → made_by m (made_by m log) ≡ made_by m log
made_twice m [] = refl
made_twice m (e ∷ es) = head (made_twice m es) (same_maker (maker_of e) m) refl
  where
    head : made_by m (made_by m es) ≡ made_by m es → (b : Bool) → same_maker (maker_of e) m ≡ b → made_by m (made_by m (e ∷ es)) ≡ made_by m (e ∷ es)
    head tail true is = ap (λ c. made_by m (cond c (e ∷ made_by m es) (made_by m es))) is ∙ (ap (λ c. cond c (e ∷ made_by m (made_by m es)) (made_by m (made_by m es))) is ∙ (ap (λ l. e ∷ l) tail ∙ sym (ap (λ c. cond c (e ∷ made_by m es) (made_by m es)) is)))
    head tail false is = ap (λ c. made_by m (cond c (e ∷ made_by m es) (made_by m es))) is ∙ (tail ∙ sym (ap (λ c. cond c (e ∷ made_by m es) (made_by m es)) is))

-- the engine's events are no processor's
no_processor : (p : ℕ) (log : List Event) → made_by (Processor p) (made_by Engine log) ≡ []
no_processor p [] = refl
no_processor p (e ∷ es) = by_maker (no_processor p es) (maker_of e) refl
  where
    by_maker : made_by (Processor p) (made_by Engine es) ≡ [] → (m : Maker) → maker_of e ≡ m → made_by (Processor p) (made_by Engine (e ∷ es)) ≡ []
    by_maker tail Engine is = ap (λ c. made_by (Processor p) (cond (same_maker c Engine) (e ∷ made_by Engine es) (made_by Engine es))) is ∙ (ap (λ c. cond (same_maker c (Processor p)) (e ∷ made_by (Processor p) (made_by Engine es)) (made_by (Processor p) (made_by Engine es))) is ∙ tail)
    by_maker tail (Processor q) is = ap (λ c. made_by (Processor p) (cond (same_maker c Engine) (e ∷ made_by Engine es) (made_by Engine es))) is ∙ tail

-- what a seat has made is all that the history has of those it stands for
own_events : {b : Truth} {j : ℕ} {v : View} → Fits b j v → (m : Maker) → StandsFor v.role m → made_by m v.mine ≡ made_by m b.log
own_events {b} {j} {v} f m is = go v.role v.mine m is f.makes
  where
    go : (role : Role) (mine : List Event) (m : Maker) → StandsFor role m → Makes b j role mine → made_by m mine ≡ made_by m b.log
    go Bearer mine m is h = absurd is
    go (Cpu p) mine m is h = ap (made_by m) h.1 ∙ (ap (λ z. made_by m (made_by z b.log)) (sym is) ∙ made_twice m b.log)
    go (Driver k) mine Engine is h = ap (made_by Engine) h.1 ∙ made_twice Engine b.log
    go (Driver k) mine (Processor p) is h = ap (made_by (Processor p)) h.1 ∙ (no_processor p b.log ∙ sym (h.2 p is).1)

-- The same domain, where another processor has asked so often

abbrev question : ℕ → Event
question q = Ask 0 true (Processor q)

abbrev longer : ℕ → ℕ → List Event → List Event
longer q zero log = log
longer q (suc k) log = longer q k log ++ question q ∷ []

-- whoever asks after cookie 0 is told that it is done
may_ask : (q : ℕ) (log : List Event) → MayFollow log (question q)
may_ask q log = (inr refl, ((λ _. inr (omega arith)), (λ _. refl)))

longer_long : (q k : ℕ) (log : List Event) → k ≤ length (longer q k log)
longer_long q zero log = omega arith
longer_long q (suc k) log = let r = longer_long q k log in let l = length-append (longer q k log) (question q ∷ []) in omega (arith, r, l)

longer_since : (q k : ℕ) (log : List Event) → IsBeginning log (longer q k log)
longer_since q zero log = beginning_refl log
longer_since q (suc k) log = beginning_push (question q) (longer_since q k log)

longer_legal : (q k : ℕ) (log : List Event) → IsLegal log → IsLegal (longer q k log)
longer_legal q zero log h = h
longer_legal q (suc k) log h = legal_push (longer q k log) (question q) (longer_legal q k log h) (may_ask q (longer q k log))

longer_makers : (n q k : ℕ) (log : List Event) → q < n → All (HasItsMaker n) log → All (HasItsMaker n) (longer q k log)
longer_makers n q zero log lt h = h
longer_makers n q (suc k) log lt h = All-push (HasItsMaker n) (longer q k log) (question q) (longer_makers n q k log lt h) lt

longer_locks : (q k p : ℕ) (i : Index) (log : List Event) (most : ℕ) → locks p i log ≤ most → locks p i (longer q k log) ≤ most
longer_locks q zero p i log most h = h
longer_locks q (suc k) p i log most h = let c = locks_push p i (longer q k log) (question q) in let was = longer_locks q k p i log most h in omega (arith, c, was)

longer_agrees : (n : ℕ) (words : List ℕ) (changes q k : ℕ) (log : List Event) → Agree n words log changes → Agree n words (longer q k log) changes
longer_agrees n words changes q zero log h = h
longer_agrees n words changes q (suc k) log h = agrees_plain n words (longer q k log) changes (longer_agrees n words changes q k log h) (question q) refl refl (λ _ _. refl) (λ _ _. refl)

longer_made : (q k : ℕ) (log : List Event) (m : Maker) → same_maker (Processor q) m ≡ false → made_by m (longer q k log) ≡ made_by m log
longer_made q zero log m other = refl
longer_made q (suc k) log m other = made_by_other m (longer q k log) (question q) other ∙ longer_made q k log m other

longer_versions : (q k : ℕ) (log : List Event) (c : ℕ) → version_of c (longer q k log) ≡ version_of c log
longer_versions q zero log c = refl
longer_versions q (suc k) log c = version_kept c (longer q k log) (question q) refl ∙ longer_versions q k log c

longer_shelved : (bounds : Bounds) (words : List ℕ) (q k : ℕ) (log : List Event) (texts : List Text) → IsLegal log → AreShelved bounds words log texts → AreShelved bounds words (longer q k log) texts
longer_shelved bounds words q zero log texts legal h = h
longer_shelved bounds words q (suc k) log texts legal h = shelved_on bounds words words (longer q k log) texts (question q) (same_shelf bounds words) (longer_legal q k log legal) (may_ask q (longer q k log)) refl (longer_shelved bounds words q k log texts legal h)

-- a seat that isn't this processor's knows what it knew
longer_fits : (b : Truth) (j q k : ℕ) → ((m : Maker) → seat_at b m ≡ j → same_maker (Processor q) m ≡ false) → (v : View) → Fits b j v → Fits (record b { log = longer q k b.log }) j v
longer_fits b j q zero other v f = f
longer_fits b j q (suc k) other v f = fits_stay (record b { log = longer q k b.log }) b.holder j (question q) (may_ask q (longer q k b.log)) other (λ _ _. refl) (λ _ _. refl) v (longer_fits b j q k other v f)

longer_has : (b : Truth) (j q k : ℕ) (t : Right) → Has b j t → Has (record b { log = longer q k b.log }) j t
longer_has b j q zero t h = h
longer_has b j q (suc k) t h = has_stays (record b { log = longer q k b.log }) b.holder j (question q) (may_ask q (longer q k b.log)) (λ _ _. refl) (λ _ _. refl) t (longer_has b j q k t h)

longer_banks : (bounds : Bounds) (homes : List (maybe.Option Slot)) (views : List View) (texts : List Text) (q k : ℕ) (log : List Event) → IsLegal log → KeepsBanks bounds homes views log texts → KeepsBanks bounds homes views (longer q k log) texts
longer_banks bounds homes views texts q zero log legal b = b
longer_banks bounds homes views texts q (suc k) log legal b = one_later bounds homes views (longer q k log) texts (longer_banks bounds homes views texts q k log legal b) (question q) (longer_legal q k log legal) (may_ask q (longer q k log)) refl (λ _. refl)

-- that processor's seat is another one
module _ (b : Truth) (j q there : ℕ) where
  makes_else : (role : Role) (mine : List Event) → (StandsFor role (Processor q) → ⊥) → Makes b j role mine → Makes (record b { seat_of = given q there b.seat_of }) j role mine
  makes_else Bearer mine not h = h
  makes_else (Cpu p) mine not h = (given_else q there b.seat_of p (λ e. not (ap Processor (sym e))) ∙ h.0, h.1)
  makes_else (Driver k) mine not h = (h.0, h.1, λ p le. let g = h.2 p le in (given_else q there b.seat_of p (λ e. not (subst (λ z. k ≤ z) e le)) ∙ g.0, g.1))

  fits_else : (v : View) → (StandsFor v.role (Processor q) → ⊥) → Fits b j v → Fits (record b { seat_of = given q there b.seat_of }) j v
  fits_else v not f = record { seen = f.seen; knows = f.knows; told = f.told; makes = makes_else v.role v.mine not f.makes; has = f.has; shown = f.shown }

-- what is left of a seat of that processor: its right, and a key that it may have in hand
abbrev keeping : View → View
keeping u = record spent { right = u.right }

abbrev without : Maker → View → View
without o u = cond (stands u.role o) (keeping u) u

as_before : (o : Maker) (v : View) → stands v.role o ≡ false → without o v ≡ v
as_before o v e = ap (λ b. cond b (keeping v) v) e

-- a token that has seen all
abbrev knowing : List Text → List Event → View
knowing texts log = record spent { seen = log; texts = texts_at texts log }

-- a token that knows of nothing but of what it has seen fits at each seat
token_fits : (b : Truth) (j : ℕ) (texts : List Text) (seen : List Event) → IsBeginning seen b.log → Fits b j (knowing texts seen)
token_fits b j texts seen h = record { seen = h; knows = omega arith; told = All-nil (λ m. GoesOn m (now b.log b.changes)); makes = tt; has = tt; shown = tt }

module _ (bounds : Bounds) (s : State Slot View) (r : Kept bounds s) (q : ℕ) (lt : q < bounds.processors) (k : ℕ) where
  abbrev all : List Event
  all = longer q k r.log

  abbrev rest : List View
  rest = map (without (Processor q)) s.views

  abbrev last : ℕ
  last = length rest

  abbrev seats : ℕ → ℕ
  seats = given q last r.seat_of

  abbrev asked : Truth
  asked = record (r.truth) { log = all; seat_of = seats }

  abbrev state : State Slot View
  state = record { words = s.words; homes = s.homes; views = rest ++ knowing r.shelf.texts all ∷ [] }

  no_maker : (j : ℕ) → j ≢ last → (m : Maker) → seat_at asked m ≡ j → same_maker (Processor q) m ≡ false
  no_maker j ne m at = same_maker_false (Processor q) m (λ e. ne (sym at ∙ (ap (seat_at asked) (sym e) ∙ given_here q last r.seat_of)))

  fits_without : (j : ℕ) (u : View) → j ≢ last → Fits r.truth j u → (b : Bool) → stands u.role (Processor q) ≡ b → Fits asked j (without (Processor q) u)
  fits_without j u ne f true e = subst (λ (z : View). Fits asked j z) (sym (ap (λ b. cond b (keeping u) u) e)) record { seen = beginning_empty all; knows = omega arith; told = All-nil (λ m. GoesOn m (now all r.changes)); makes = tt; has = longer_has r.truth j q k u.right f.has; shown = tt }
  fits_without j u ne f false e = subst (λ (z : View). Fits asked j z) (sym (as_before (Processor q) u e))
      (longer_fits (record (r.truth) { seat_of = seats }) j q k (no_maker j ne) u
      (fits_else r.truth j q last u (λ h. false≠true (sym (others u.role (Processor q) e (Processor q) h) ∙ same_maker_refl (Processor q))) f))

  each_view : (j : ℕ) (d : View) → get_elem? state.views j ≡ some d → Fits asked j d
  each_view j d e = ⊎_elim
      (λ (t : (j ≢ last) × (get_elem? rest j ≡ some d)). let (u, at, is) = from_map (without (Processor q)) s.views j d t.1 in
      subst (λ (z : View). Fits asked j z) is (fits_without j u t.0 (r.each_view j u at) (stands u.role (Processor q)) refl))
      (λ (t : (j ≡ last) × (knowing r.shelf.texts all ≡ d)). subst (λ (z : View). Fits asked j z) t.1 (token_fits asked j r.shelf.texts all (beginning_refl all)))
      (at_snoc rest (knowing r.shelf.texts all) d j e)

  token_done : (seen : List Event) → HasDone r.deeds (knowing r.shelf.texts seen)
  token_done seen = record { upto = record { rest = r.deeds; whole = refl }; own = λ m g. absurd g }

  done_without : (u : View) → HasDone r.deeds u → (b : Bool) → stands u.role (Processor q) ≡ b → HasDone r.deeds (without (Processor q) u)
  done_without u h true e = subst (λ (z : View). HasDone r.deeds z) (sym (ap (λ b. cond b (keeping u) u) e)) record { upto = record { rest = r.deeds; whole = refl }; own = λ m g. absurd g }
  done_without u h false e = subst (λ (z : View). HasDone r.deeds z) (sym (as_before (Processor q) u e)) h

  each_done : (j : ℕ) (d : View) → get_elem? state.views j ≡ some d → HasDone r.deeds d
  each_done j d e = ⊎_elim
      (λ (t : (j ≢ last) × (get_elem? rest j ≡ some d)). let (u, at, is) = from_map (without (Processor q)) s.views j d t.1 in
      subst (λ (z : View). HasDone r.deeds z) is (done_without u (r.each_done j u at) (stands u.role (Processor q)) refl))
      (λ (t : (j ≡ last) × (knowing r.shelf.texts all ≡ d)). subst (λ (z : View). HasDone r.deeds z) t.1 (token_done all))
      (at_snoc rest (knowing r.shelf.texts all) d j e)

  shelf_without : (j : ℕ) (u : View) → FitsShelf bounds s.words r.log r.shelf.texts r.shelf.writer_of j u → (b : Bool) → stands u.role (Processor q) ≡ b → FitsShelf bounds s.words all r.shelf.texts r.shelf.writer_of j (without (Processor q) u)
  shelf_without j u f true e = subst (λ (z : View). FitsShelf bounds s.words all r.shelf.texts r.shelf.writer_of j z) (sym (ap (λ b. cond b (keeping u) u) e)) record {
    has = refl;
    told = All-nil (λ m. m.texts ≡ texts_at r.shelf.texts m.history);
    writes = (fits_shelf_on bounds s.words s.words r.log all r.shelf.texts r.shelf.writer_of j (same_shelf bounds s.words) (longer_since q k r.log) (longer_versions q k r.log) u f).writes;
  }
  shelf_without j u f false e = subst (λ (z : View). FitsShelf bounds s.words all r.shelf.texts r.shelf.writer_of j z) (sym (as_before (Processor q) u e))
      (fits_shelf_on bounds s.words s.words r.log all r.shelf.texts r.shelf.writer_of j (same_shelf bounds s.words) (longer_since q k r.log) (longer_versions q k r.log) u f)

  each_shelf : (j : ℕ) (d : View) → get_elem? state.views j ≡ some d → FitsShelf bounds s.words all r.shelf.texts r.shelf.writer_of j d
  each_shelf j d e = ⊎_elim
      (λ (t : (j ≢ last) × (get_elem? rest j ≡ some d)). let (u, at, is) = from_map (without (Processor q)) s.views j d t.1 in
      subst (λ (z : View). FitsShelf bounds s.words all r.shelf.texts r.shelf.writer_of j z) is (shelf_without j u (r.shelf.each j u at) (stands u.role (Processor q)) refl))
      (λ (t : (j ≡ last) × (knowing r.shelf.texts all ≡ d)). subst (λ (z : View). FitsShelf bounds s.words all r.shelf.texts r.shelf.writer_of j z) t.1
      record { has = refl; told = All-nil (λ m. m.texts ≡ texts_at r.shelf.texts m.history); writes = tt })
      (at_snoc rest (knowing r.shelf.texts all) d j e)

  all_banks : KeepsBanks bounds s.homes s.views all r.shelf.texts
  all_banks = longer_banks bounds s.homes s.views r.shelf.texts q k r.log r.within.legal r.banks

  hand_kept : (u : View) (b : Bool) → hand_in (cond b (keeping u) u).right ≡ hand_in u.right
  hand_kept u true = refl
  hand_kept u false = refl

  bank_without : (j : ℕ) (u : View) → FitsBank bounds.processors all all_banks.books all_banks.lane_of j u → (b : Bool) → FitsBank bounds.processors all all_banks.books all_banks.lane_of j (cond b (keeping u) u)
  bank_without j u f true = record { lane = λ p mans. absurd mans; section = f.section; plan = f.plan; holds = f.holds; reads = f.reads; writes = f.writes }
  bank_without j u f false = f

  each_bank : (j : ℕ) (d : View) → get_elem? state.views j ≡ some d → FitsBank bounds.processors all all_banks.books all_banks.lane_of j d
  each_bank j d e = ⊎_elim
      (λ (t : (j ≢ last) × (get_elem? rest j ≡ some d)). let (u, at, is) = from_map (without (Processor q)) s.views j d t.1 in
      subst (λ (z : View). FitsBank bounds.processors all all_banks.books all_banks.lane_of j z) is (bank_without j u (all_banks.each j u at) (stands u.role (Processor q))))
      (λ (t : (j ≡ last) × (knowing r.shelf.texts all ≡ d)). subst (λ (z : View). FitsBank bounds.processors all all_banks.books all_banks.lane_of j z) t.1 (bank_free bounds s.homes s.views all r.shelf.texts all_banks all all_banks.lane_of j (knowing r.shelf.texts all) (λ p mans. absurd mans) refl))
      (at_snoc rest (knowing r.shelf.texts all) d j e)

  kept : Kept bounds state
  kept = record {
    truth = asked;
    small = r.small;
    within = record {
      legal = longer_legal q k r.log r.within.legal;
      makers = longer_makers bounds.processors q k r.log lt r.within.makers;
      limited = λ p i. longer_locks q k p i r.log bounds.sections (r.within.limited p i);
      periods = r.within.periods;
    };
    words = longer_agrees bounds.processors s.words r.changes q k r.log r.words;
    known = r.known;
    each_view = each_view;
    deeds = r.deeds;
    done = done_later r.deeds (now r.log r.changes) (now all r.changes) (record { history = longer_since q k r.log; changes = omega arith }) r.done;
    each_done = each_done;
    shelf = record {
      texts = r.shelf.texts;
      writer_of = r.shelf.writer_of;
      room = r.shelf.room;
      shelved = longer_shelved bounds s.words q k r.log r.shelf.texts r.within.legal r.shelf.shelved;
      each = each_shelf;
      loaded = loaded_later r.deeds r.log all r.shelf.texts (longer_versions q k r.log) r.shelf.loaded;
    };
    banks = reseat_banks bounds s.homes s.views all r.shelf.texts all_banks state.views all_banks.lane_of
        (λ j v h at has. (without (Processor q) v, at_longer rest (knowing r.shelf.texts all ∷ []) j (without (Processor q) v) (at_map (without (Processor q)) s.views j v at), hand_kept v (stands v.role (Processor q)) ∙ has)) each_bank;
  }

  -- a seat that isn't that processor's is there as before
  there : (id : ℕ) (v : View) → get_elem? s.views id ≡ some v → (StandsFor v.role (Processor q) → ⊥) → get_elem? state.views id ≡ some v
  there id v at not = at_longer rest (knowing r.shelf.texts all ∷ []) id v (at_map (without (Processor q)) s.views id v at ∙ ap some (as_before (Processor q) v (not_standing v.role (Processor q) not)))

  below : (id : ℕ) (v : View) → get_elem? s.views id ≡ some v → id < last
  below id v at = let b = at_below s.views v id at in let n = length_map (without (Processor q)) s.views in omega (arith, b, n)

  knows_all : get_elem? state.views last ≡ some (knowing r.shelf.texts all)
  knows_all = at_last rest (knowing r.shelf.texts all) last refl

  module _ (id : ℕ) (v : View) (at : get_elem? s.views id ≡ some v) (not : StandsFor v.role (Processor q) → ⊥) (Has : View → Type 0)
      (says : (after : State Slot View) → Kept bounds after → get_elem? after.views last ≡ some (knowing r.shelf.texts all) → (j : ℕ) (w : View) → get_elem? after.views j ≡ some w → length w.seen ≤ k → Has w) where
    left_has : (left right : View) → length left.seen ≤ k → Splits (Kept bounds) id v left right → Has left
    left_has left right short splits =
        let low = below id v at in
        says record { words = state.words; homes = state.homes; views = set state.views id left ++ right ∷ [] } (splits state kept (there id v at not))
        (at_longer (set state.views id left) (right ∷ []) last (knowing r.shelf.texts all) (set_else state.views id last left (λ h. omega (arith, h, low)) ∙ knows_all))
        id left (at_longer (set state.views id left) (right ∷ []) id left (set_here state.views id left (at_below state.views v id (there id v at not)))) short

    right_has : (left right : View) → length right.seen ≤ k → Splits (Kept bounds) id v left right → Has right
    right_has left right short splits =
        let low = below id v at in
        says record { words = state.words; homes = state.homes; views = set state.views id left ++ right ∷ [] } (splits state kept (there id v at not))
        (at_longer (set state.views id left) (right ∷ []) last (knowing r.shelf.texts all) (set_else state.views id last left (λ h. omega (arith, h, low)) ∙ knows_all))
        (length (set state.views id left)) right (at_last (set state.views id left) right (length (set state.views id left)) refl) short

    both_have : (other : ℕ) (w both gone : View) → (other ≡ id → ⊥) → get_elem? s.views other ≡ some w → (StandsFor w.role (Processor q) → ⊥) → length both.seen ≤ k → Joins (Kept bounds) id v other w both gone → Has both
    both_have other w both gone apart there_too neither_one short joins =
        let low = below id v at in
        let low_too = below other w there_too in
        says record { words = state.words; homes = state.homes; views = set (set state.views id both) other gone } (joins state kept (there id v at not) apart (set_else state.views id other both apart ∙ there other w there_too neither_one))
        (set_else (set state.views id both) other last gone (λ h. omega (arith, h, low_too)) ∙ (set_else state.views id last both (λ h. omega (arith, h, low)) ∙ knows_all))
        id both (set_else (set state.views id both) other id gone (λ h. apart (sym h)) ∙ set_here state.views id both (at_below state.views v id (there id v at not))) short

  -- what was seen is no longer than what the token has seen, and both are beginnings of one history
  begins_all : (after : State Slot View) → (a : Kept bounds after) → get_elem? after.views last ≡ some (knowing r.shelf.texts all) → (j : ℕ) (w : View) → get_elem? after.views j ≡ some w → length w.seen ≤ k → IsBeginning w.seen all
  begins_all after a whole j w here short = let long = longer_long q k r.log in beginning_by_length (a.each_view j w here).seen (a.each_view last (knowing r.shelf.texts all) whole).seen (omega (arith, short, long))

  -- so its texts are those of the Puts there, and a beginning of those that the token has, which are all that there are
  pub says_texts : (after : State Slot View) → Kept bounds after → get_elem? after.views last ≡ some (knowing r.shelf.texts all) → (j : ℕ) (w : View) → get_elem? after.views j ≡ some w → length w.seen ≤ k → HasNoTextMore r.shelf.texts w
  says_texts after a whole j w here short = record {
    texts = start_trans (subst (λ (z : List Text × List Text). IsStart z.0 z.1) (λ i. (sym (a.shelf.each j w here).has i, sym (a.shelf.each last (knowing r.shelf.texts all) whole).has i))
        (start_between w.seen all a.shelf.texts (begins_all after a whole j w here short))) (start_at (length (put_cells all)) r.shelf.texts);
    seen = subst (λ (z : List Text). AreTextsOf z w.seen) (sym (a.shelf.each j w here).has) (texts_seen a.shelf.texts w.seen a.log (a.each_view j w here).seen a.shelf.shelved.cells);
  }

  module _ (id : ℕ) (v : View) (at : get_elem? s.views id ≡ some v) (m : Maker) (is : StandsFor v.role m) (not : StandsFor v.role (Processor q) → ⊥) where
    other_maker : same_maker (Processor q) m ≡ false
    other_maker = same_maker_false (Processor q) m (λ e. not (subst (StandsFor v.role) (sym e) is))

    pub says_events : (after : State Slot View) → Kept bounds after → get_elem? after.views last ≡ some (knowing r.shelf.texts all) → (j : ℕ) (w : View) → get_elem? after.views j ≡ some w → length w.seen ≤ k → HasNoEventMore m v w
    says_events after a whole j w here short =
        let b = beginning_made_by m (begins_all after a whole j w here short) in
        record {
          rest = b.rest;
          whole = own_events (r.each_view id v at) m is ∙ (sym (longer_made q k r.log m other_maker) ∙ b.whole);
        }

no_event_by_split : (bounds : Bounds) (s : State Slot View) (r : Kept bounds s) (id : ℕ) (v : View) → get_elem? s.views id ≡ some v → (m o : Maker) → StandsFor v.role m → (StandsFor v.role o → ⊥) → IsProcessor bounds.processors o
    → (left right : View) → Splits (Kept bounds) id v left right → HasNoEventMore m v left × HasNoEventMore m v right
no_event_by_split bounds s r id v at m (Processor q) is not lt left right splits = (
  left_has bounds s r q lt (length left.seen) id v at not (HasNoEventMore m v) (says_events bounds s r q lt (length left.seen) id v at m is not) left right (omega arith) splits,
  right_has bounds s r q lt (length right.seen) id v at not (HasNoEventMore m v) (says_events bounds s r q lt (length right.seen) id v at m is not) left right (omega arith) splits,
)
no_event_by_split bounds s r id v at m Engine is not lt left right splits = absurd lt

no_event_by_join : (bounds : Bounds) (s : State Slot View) (r : Kept bounds s) (id : ℕ) (v : View) → get_elem? s.views id ≡ some v → (m o : Maker) → StandsFor v.role m → (StandsFor v.role o → ⊥) → IsProcessor bounds.processors o
    → (other : ℕ) (w both gone : View) → (other ≡ id → ⊥) → get_elem? s.views other ≡ some w → (StandsFor w.role o → ⊥) → Joins (Kept bounds) id v other w both gone → HasNoEventMore m v both
no_event_by_join bounds s r id v at m (Processor q) is not lt other w both gone apart there_too neither_one joins = both_have bounds s r q lt (length both.seen) id v at not
    (HasNoEventMore m v) (says_events bounds s r q lt (length both.seen) id v at m is not) other w both gone apart there_too neither_one (omega arith) joins
no_event_by_join bounds s r id v at m Engine is not lt other w both gone apart there_too neither_one joins = absurd lt

pub never_forged : NoStepIsForged
never_forged bounds s r id v at m o is not = (
  (λ left right splits. let steps = no_step_by_split bounds s r id v at m o is not left right splits in (
    record { steps = steps.0; events = λ lt. (no_event_by_split bounds s r id v at m o is not lt left right splits).0 },
    record { steps = steps.1; events = λ lt. (no_event_by_split bounds s r id v at m o is not lt left right splits).1 },
  )),
  (λ other w both gone apart there_too neither_one joins. record {
    steps = no_step_by_join bounds s r id v at m o is not other w both gone apart there_too neither_one joins;
    events = λ lt. no_event_by_join bounds s r id v at m o is not lt other w both gone apart there_too neither_one joins;
  }),
)

pub texts_never_forged : NoTextIsForged
texts_never_forged bounds s r id v at q lt not = (
  (λ left right splits. (
    left_has bounds s r q lt (length left.seen) id v at not (HasNoTextMore r.shelf.texts) (says_texts bounds s r q lt (length left.seen)) left right (omega arith) splits,
    right_has bounds s r q lt (length right.seen) id v at not (HasNoTextMore r.shelf.texts) (says_texts bounds s r q lt (length right.seen)) left right (omega arith) splits,
  )),
  (λ other w both gone apart there_too neither_one joins.
      both_have bounds s r q lt (length both.seen) id v at not (HasNoTextMore r.shelf.texts) (says_texts bounds s r q lt (length both.seen)) other w both gone apart there_too neither_one (omega arith) joins),
)
