-- The slots of a closed table are emptied one after the other.
use Rattle.std.proofs.Common.{◌≡◌, ◌≢◌, ℕ, zero, suc, ◌+◌, ◌<◌, ◌≤◌, Bool, true, false, List, [], ◌∷◌, Option, None, get_or, set, refl, sym, ap, ◌∙◌, subst, arith}
use Rattle.std.specs.Mem.Slots.{slots_items, slots_len, slots_filled, IsFull}
use mathlib.Core.Option.{some, some-injective, some-ne-none}
use mathlib.Core.Logic.{dite}
use native.Mathlib.Decide.{ℕ_discrete}
use lib.ListN.{get_elem?}
use Rattle.atomic_table.specs.declared.owned.Closed.{Closed}
use Rattle.desk.specs.Seats.{desk_of, LiesAlone}

pub read_at : {A : Type 0} (l : List A) (i : ℕ) (a d : A) → get_elem? l i ≡ some a → get_or l i d ≡ a
read_at [] i a d e = absurd (some-ne-none a (sym e))
read_at (x ∷ xs) zero a d e = some-injective x a e
read_at (x ∷ xs) (suc i) a d e = read_at xs i a d e

off_here : (fs : List Bool) (i : ℕ) → get_or (set fs i false) i false ≡ false
off_here [] i = refl
off_here (f ∷ fs) zero = refl
off_here (f ∷ fs) (suc i) = off_here fs i

off_else : (fs : List Bool) (i k : ℕ) → k ≢ i → get_or (set fs i false) k false ≡ get_or fs k false
off_else [] i k ne = refl
off_else (f ∷ fs) zero zero ne = absurd (ne refl)
off_else (f ∷ fs) zero (suc k) ne = refl
off_else (f ∷ fs) (suc i) zero ne = refl
off_else (f ∷ fs) (suc i) (suc k) ne = off_else fs i k (λ e. ne (ap suc e))

off_stays : (fs : List Bool) (i k : ℕ) → get_or fs k false ≡ false → get_or (set fs i false) k false ≡ false
off_stays fs i k h = dite (ℕ_discrete k i) (λ e. ap (λ z. get_or (set fs i false) z false) e ∙ off_here fs i) (λ ne. off_else fs i k ne ∙ h)

module _ {T A : Type 0} where
  -- the desk's slot and those below this one are empty
  pub record Emptied (desk slot : ℕ) (before now : Closed (Option T) A) : Type 0 where
    pub items : slots_items now.slots ≡ slots_items before.slots
    pub count : slots_len now.slots ≡ slots_len before.slots
    pub desk_off : get_or (slots_filled now.slots) desk false ≡ false
    pub off : (k : ℕ) → k < slot → get_or (slots_filled now.slots) k false ≡ false
    pub on : (k : ℕ) → slot ≤ k → k < slots_len before.slots → k ≢ desk → get_or (slots_filled now.slots) k false ≡ true

  abbrev pub Took : ℕ → Closed (Option T) A → Closed (Option T) A → Type 0
  Took i old new = (slots_items new.slots ≡ slots_items old.slots) × (slots_filled new.slots ≡ set (slots_filled old.slots) i false) × (slots_len new.slots ≡ slots_len old.slots) × (new.words ≡ old.words)

  pub emptied_desk : (desk : ℕ) (before now : Closed (Option T) A) → IsFull before.slots → Took desk before now → Emptied desk 0 before now
  emptied_desk desk before now full t = record {
    items = t.0;
    count = t.2;
    desk_off = ap (λ fs. get_or fs desk false) t.1 ∙ off_here (slots_filled before.slots) desk;
    off = λ k lt. absurd (omega arith);
    on = λ k le lt ne. ap (λ fs. get_or fs k false) t.1 ∙ (off_else (slots_filled before.slots) desk k ne ∙ full k le lt);
  }

  pub emptied_next : (desk slot : ℕ) (before old now : Closed (Option T) A) → Emptied desk slot before old → Took slot old now → Emptied desk (slot + 1) before now
  emptied_next desk slot before old now h t = record {
    items = t.0 ∙ h.items;
    count = t.2 ∙ h.count;
    desk_off = ap (λ fs. get_or fs desk false) t.1 ∙ off_stays (slots_filled old.slots) slot desk h.desk_off;
    off = λ k lt. ap (λ fs. get_or fs k false) t.1 ∙ dite (ℕ_discrete k slot) (λ e. ap (λ i. get_or (set (slots_filled old.slots) slot false) i false) e ∙ off_here (slots_filled old.slots) slot) (λ ne. off_else (slots_filled old.slots) slot k ne ∙ h.off k (omega (arith, lt, ne)));
    on = λ k le lt ne. ap (λ fs. get_or fs k false) t.1 ∙ (off_else (slots_filled old.slots) slot k (λ e. absurd (omega (arith, le, e))) ∙ h.on k (omega (arith, le)) lt ne);
  }

  pub emptied_skip : (desk slot : ℕ) (before old now : Closed (Option T) A) → Emptied desk slot before old → slot ≡ desk → now ≡ old → Emptied desk (slot + 1) before now
  emptied_skip desk slot before old now h is same = subst (Emptied desk (slot + 1) before) (sym same) record {
    items = h.items;
    count = h.count;
    desk_off = h.desk_off;
    off = λ k lt. dite (ℕ_discrete k slot) (λ e. ap (λ i. get_or (slots_filled old.slots) i false) (e ∙ is) ∙ h.desk_off) (λ ne. h.off k (omega (arith, lt, ne)));
    on = λ k le lt ne. h.on k (omega (arith, le)) lt ne;
  }

  -- every other slot has nothing
  pub nothing_there : (desk slot : ℕ) (before old : Closed (Option T) A) (x : Option T) → LiesAlone before → desk ≡ desk_of before → Emptied desk slot before old → slot < slots_len before.slots → slot ≢ desk
      → get_elem? (slots_items old.slots) slot ≡ some x → x ≡ None
  nothing_there desk slot before old x alone is h lt ne at = some-injective x None (sym at ∙ (ap (λ (l : List (Option T)). get_elem? l slot) h.items ∙ alone.others slot lt (λ e. ne (e ∙ sym is))))
