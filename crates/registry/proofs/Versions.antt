-- Versions that are put.
use Rattle.std.proofs.Common.{◌≡◌, ◌==◌, ℕ, suc, ◌<◌, List, [], ◌∷◌, length, map, get_or, refl, sym, ap, ◌∙◌, subst, arith}
use Rattle.std.proofs.lemmas.List.Sums.{sum_by-cons}
use Rattle.sections.specs.Views as sections
use Rattle.sections.specs.Calls.{IsSameCpu}
use Rattle.boxes.specs.Boxes.{BoxesView, IsCellOf}
use Rattle.registry.specs.declared.index.Entry.{Entry}
use Rattle.registry.specs.declared.device.Device.{Device}
use Rattle.registry.specs.Names.{names_of, names_shown, times_here, times_shown, Lends}
use Rattle.registry.specs.Registry.{AreParts, keys_of}
use Rattle.registry.proofs.Counts.{bit}
use Rattle.registry.proofs.Parts.{kept_length, kept_at}

module _ {K V A : Type 0} where
  parts_behind : (e : Entry K V) (es : List (Entry K V)) (d : Device K V A) (ds : List (Device K V A)) → AreParts (e ∷ es) (d ∷ ds) → AreParts es ds
  parts_behind e es d ds p = record { many = omega (arith, p.many); each = λ k x y lt. p.each (suc k) x y (omega (arith, lt)) }

  pub parts_keys : (es : List (Entry K V)) (ds : List (Device K V A)) → AreParts es ds → map (λ (e : Entry K V). e.key) es ≡ keys_of ds
  parts_keys [] [] p = refl
  parts_keys [] (d ∷ ds) p = absurd (omega (arith, p.many))
  parts_keys (e ∷ es) [] p = absurd (omega (arith, p.many))
  parts_keys (e ∷ es) (d ∷ ds) p = λ i. (p.each 0 e d (omega arith)).key i ∷ parts_keys es ds (parts_behind e es d ds p) i

  pub parts_names : (es : List (Entry K V)) (ds : List (Device K V A)) → AreParts es ds → names_shown es ≡ names_of ds
  parts_names [] [] p = refl
  parts_names [] (d ∷ ds) p = absurd (omega (arith, p.many))
  parts_names (e ∷ es) [] p = absurd (omega (arith, p.many))
  parts_names (e ∷ es) (d ∷ ds) p = λ i. ((p.each 0 e d (omega arith)).key i, (p.each 0 e d (omega arith)).value i) ∷ parts_names es ds (parts_behind e es d ds p) i

  -- a number stands there as often as among the devices
  pub parts_times : (n : ℕ) (es : List (Entry K V)) (ds : List (Device K V A)) → AreParts es ds → times_shown n es ≡ times_here n ds
  parts_times n [] [] p = refl
  parts_times n [] (d ∷ ds) p = absurd (omega (arith, p.many))
  parts_times n (e ∷ es) [] p = absurd (omega (arith, p.many))
  parts_times n (e ∷ es) (d ∷ ds) p =
      let a = sum_by-cons (λ (x : Entry K V). bit (x.number == n)) e es in
      let b = sum_by-cons (λ (x : Device K V A). bit (x.number == n)) d ds in
      let same = ap (λ m. bit (m == n)) (p.each 0 e d (omega arith)).number in
      let rest = parts_times n es ds (parts_behind e es d ds p) in omega (arith, a, b, same, rest)

  pub parts_many : (es : List (Entry K V)) (ds fs : List (Device K V A)) → AreParts es ds → Lends 1 ds fs → length es ≡ length fs
  parts_many es ds fs p l = p.many ∙ sym (kept_length ds fs l.kept)

  pub parts_round : (es : List (Entry K V)) (ds fs : List (Device K V A)) → AreParts es ds → Lends 1 ds fs → (k : ℕ) (e : Entry K V) (d : Device K V A) → k < length es → (get_or es k e).part.round ≡ (get_or fs k d).deed.deed.round
  parts_round es ds fs p l k e d lt = (p.each k e d lt).round ∙ ap (λ z. z.2.deed.round) (sym (kept_at ds fs l.kept k d (omega (arith, p.many, lt))))

  -- what was lent came back
  pub lends_back : (ds fs gs : List (Device K V A)) → Lends 1 ds fs → Lends 1 gs fs → Lends 0 ds gs
  lends_back ds fs gs l m = record {
    kept = sym m.kept ∙ l.kept;
    out = λ k d lt. let n = kept_length ds gs (sym m.kept ∙ l.kept) in let a = l.out k d lt in let b = m.out k d (omega (arith, n, lt)) in omega (arith, a, b);
  }

pub cell_kept : (c c' : sections.CpuView) (b b' : BoxesView) → b' ≡ b → IsCellOf c b → IsSameCpu c c' → IsCellOf c' b'
cell_kept c c' b b' e h same = subst (IsCellOf c') (sym e) (h.0 ∙ sym same.0, h.1 ∙ sym same.1)
