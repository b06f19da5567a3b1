-- What is written part by part.
use Rattle.std.proofs.Common.{◌≡◌, ◌⊎◌, inl, inr, ℕ, List, [], ◌∷◌, ◌++◌, Result, Ok, refl, sym, ap, ◌∙◌, subst, append_assoc, append-nil}
use Rattle.std.specs.Prelude.{Option, Some, None, Vec}
use Rattle.std.specs.Io.KnownBytes.{Appends}
use Rattle.std.proofs.lemmas.Fn.{FoldsTo-push}
use Rattle.srcuctl.specs.Shown.{joined, WritesParts}

appends_none : (held : Option (List ℕ)) → Appends held held []
appends_none None = tt
appends_none (Some xs) = sym (append-nil xs)

pub no_part_written : {F E A : Type 0} (calls : F → Result (Option (Vec ℕ A)) E → F → Type 0) (first : F) (held : Option (List ℕ)) → WritesParts calls first first held held
no_part_written calls first held = record { parts = []; given = refl; written = appends_none held }

appends_both : (old new newer : Option (List ℕ)) (xs ys : List ℕ) → Appends old new xs → Appends new newer ys → Appends old newer (xs ++ ys)
appends_both None new newer xs ys a b = tt
appends_both (Some o) None newer xs ys a b = absurd a
appends_both (Some o) (Some n) None xs ys a b = absurd b
appends_both (Some o) (Some n) (Some m) xs ys a b = b ∙ ap (λ l. l ++ ys) a ∙ append_assoc o xs ys

joined_both : {A : Type 0} (xs : List (Vec ℕ A)) (part : Vec ℕ A) → joined (xs ++ (part ∷ [])) ≡ joined xs ++ part.items
joined_both [] part = append-nil part.items
joined_both (x ∷ xs) part = ap (λ l. x.items ++ l) (joined_both xs part) ∙ sym (append_assoc x.items (joined xs) part.items)

pub one_more_written : {F E A : Type 0} (calls : F → Result (Option (Vec ℕ A)) E → F → Type 0) (first now now' : F) (part : Vec ℕ A) (old new newer : Option (List ℕ))
    → WritesParts calls first now old new → calls now (Ok (Some part)) now' → Appends new newer part.items → WritesParts calls first now' old newer
one_more_written calls first now now' part old new newer before gave wrote = record {
  parts = before.parts ++ (part ∷ []);
  given = FoldsTo-push (λ f p f'. calls f (Ok (Some p)) f') first before.parts now part now' before.given gave;
  written = subst (λ l. Appends old newer l) (sym (joined_both before.parts part)) (appends_both old new newer (joined before.parts) part.items before.written wrote);
}

pub or_more : {P Q R : Type 0} → (Q → R) → P ⊎ Q → P ⊎ R
or_more more (inl p) = inl p
or_more more (inr q) = inr (more q)
