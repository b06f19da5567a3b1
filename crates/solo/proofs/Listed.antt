-- The list of a processor in one hand, where all that came in is moved behind those that wait.
use Rattle.std.proofs.Common.{◌≡◌, ℕ, List, [], length, take, drop, sym, ap, ◌∙◌, subst}
use Rattle.solo.proofs.Words.{take-length, drop-length, Entry, Deed, Line, all_moved, with_moved, with_call, gathered, line_in, ListView, IsListIn, all_moved_last, in_one, list_in}

module _ {J : Type 0} where
  -- a job that comes in is the last one
  pub called_last : (e : Entry J) (l : Line J) → in_one (with_call e l) ≡ record (in_one l) { waiting = with_moved e (in_one l).waiting }
  called_last e l i = record { out = l.out; waiting = all_moved_last l.coming e l.waiting i; coming = [] }

  -- all that came in are moved
  pub gathered_whole : (l : Line J) (moved : ℕ) → moved ≡ length l.coming → gathered moved l ≡ in_one l
  gathered_whole l moved all i = record {
    out = l.out;
    waiting = all_moved ((ap (λ n. take n l.coming) all ∙ take-length l.coming) i) l.waiting;
    coming = (ap (λ n. drop n l.coming) all ∙ drop-length l.coming) i;
  }

  -- the list of the processor, to which all that came in were moved
  pub whole_list : (p : ℕ) (seen : List (Deed J)) (l : ListView J) → l.processor ≡ p → IsListIn seen l → l.moved ≡ length (line_in p seen).coming → list_in p seen ≡ record { out = l.out; waiting = l.entries; coming = [] }
  whole_list p seen l at h all =
      let out : l.out ≡ (line_in p seen).out = subst (λ q. l.out ≡ (line_in q seen).out) at h.out in
      let entries : l.entries ≡ (gathered l.moved (line_in p seen)).waiting = subst (λ q. l.entries ≡ (gathered l.moved (line_in q seen)).waiting) at h.entries in
      let whole = gathered_whole (line_in p seen) l.moved all in
      λ i. record { out = sym out i; waiting = (sym (ap (λ (k : Line J). k.waiting) whole) ∙ sym entries) i; coming = [] }
