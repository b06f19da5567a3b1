-- A walk from the last line of a script to its first.
use Rattle.std.proofs.Common.{◌≡◌, ℕ, Bool, true, false, cond, ◌==◌, ◌&&◌, if◌then◌else◌, bytes_eq, List, [], ◌∷◌, ◌++◌, refl, sym, ap, ◌∙◌, reverse, length, arith, append_assoc}
use Rattle.std.specs.Prelude.{Option, Some, None, option_map, option_to_list}
use Rattle.std.specs.Map.{lookup}
use Rattle.std.proofs.lemmas.List.{append-nil, reverse-append}
use Rattle.indexmap.specs.IndexMap.{IndexMap, get}
use Rattle.account.specs.declared.deed.Row.{Row}
use Rattle.account.specs.declared.deed.Section.{Section}
use Rattle.account.specs.declared.span.End.{End}
use Rattle.account.specs.declared.span.Span.{Span}
use Rattle.account.specs.Spans.{end_at, end_by, end_in, found_in, key_eq, first_end, section_in, span_from, begun_by, spans_of}

-- the lines after `left` were met: `all` has their sections, the last one first, and `ends` says where they end sections
pub record AreMet (rows left : List Row) (all : List Span) (ends : Section → Option End) : Type 0 where
  pub met : List Row
  pub rows_are : rows ≡ left ++ met
  pub spans_are : spans_of met ≡ reverse all
  pub ends_are : (s : Section) → end_in met s ≡ ends s

pub none_met : {S : Type 0} (rows : List Row) (all : List Span) (ends : IndexMap (ℕ × List ℕ) (ℕ × Option ℕ) S) → all ≡ [] → ends.entries ≡ [] → AreMet rows rows all (found_in ends)
none_met rows all ends none free = record {
  met = [];
  rows_are = sym (append-nil rows);
  spans_are = ap reverse (sym none);
  ends_are = λ s. ap (λ (es : List ((ℕ × List ℕ) × (ℕ × Option ℕ))). option_map (end_at s) (lookup (key_eq (s.home.made, s.name)) es)) (sym free);
}

-- one more line is noted, which frees this name of the domain that was made there
pub noted : {S : Type 0} (before after : IndexMap (ℕ × List ℕ) (ℕ × Option ℕ) S) (made : ℕ) (name : List ℕ) (line : ℕ × Option ℕ) → ((q : ℕ × List ℕ) → get key_eq after q ≡ cond (key_eq (made, name) q) (Some line) (get key_eq before q))
    → (s : Section) → found_in after s ≡ first_end (if (made == s.home.made) && bytes_eq name s.name then Some (end_at s line) else None) (found_in before s)
noted before after made name line updates s = ap (option_map (end_at s)) (updates (s.home.made, s.name)) ∙ by_case (key_eq (made, name) (s.home.made, s.name))
  where
    by_case : (b : Bool) → option_map (end_at s) (cond b (Some line) (get key_eq before (s.home.made, s.name))) ≡ first_end (if b then Some (end_at s line) else None) (found_in before s)
    by_case true = refl
    by_case false = refl

same_span : (f g : Section → Option End) (n : ℕ) → ((s : Section) → f s ≡ g s) → (o : Option Section) → option_to_list (option_map (span_from f n) o) ≡ reverse (option_to_list (option_map (span_from g n) o))
same_span f g n same None = refl
same_span f g n same (Some s) = ap (λ (e : Option End). record { section = s; begun = n; end = e } ∷ []) (same s)

pub one_more_met : (rows left rest : List Row) (row : Row) (all all' : List Span) (ends ends' : Section → Option End) → AreMet rows left all ends → left ≡ rest ++ (row ∷ []) → all' ≡ all ++ begun_by ends row.number row.deed
    → ((s : Section) → ends' s ≡ first_end (end_by s row) (ends s)) → AreMet rows rest all' ends'
one_more_met rows left rest row all all' ends ends' m split more noted = record {
  met = row ∷ m.met;
  rows_are = m.rows_are ∙ ap (λ l. l ++ m.met) split ∙ append_assoc rest (row ∷ []) m.met;
  spans_are = ap (λ l. begun_by (end_in m.met) row.number row.deed ++ l) m.spans_are ∙ ap (λ l. l ++ reverse all) (same_span (end_in m.met) ends row.number m.ends_are (section_in row.deed))
      ∙ sym (reverse-append all (begun_by ends row.number row.deed)) ∙ ap reverse (sym more);
  ends_are = λ s. ap (first_end (end_by s row)) (m.ends_are s) ∙ sym (noted s);
}

pub all_met : (rows left : List Row) (all : List Span) (ends : Section → Option End) → AreMet rows left all ends → length left ≡ 0 → reverse all ≡ spans_of rows
all_met rows [] all ends m none = sym m.spans_are ∙ ap spans_of (sym m.rows_are)
all_met rows (row ∷ left) all ends m none = absurd (omega (arith, none))
