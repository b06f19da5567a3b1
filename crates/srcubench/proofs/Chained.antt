-- Chains that are registered, changed and called, one time behind the other.
use Rattle.std.proofs.Common.{◌≡◌, ℕ, ◌+◌, List, [], ◌∷◌, map, take, refl, sym, ap, ◌∙◌, subst, add-one}
use Rattle.std.specs.List.{AllZip}
use Rattle.sections.specs.WriterViews.{WriterView}
use Rattle.sections.specs.Dealing.{new_writer}
use Rattle.domain.specs.Views.{DomainView, CpuView}
use Rattle.notify.specs.declared.block.Block.{Block}
use Rattle.notify.specs.Calling.{GivesAt}
use Rattle.shelf.specs.Cells.{cell_of}
use Rattle.notify.specs.Chains.{ChainState, ChainCell}
use Rattle.notify.specs.Reading.{Calls}
use Rattle.srcubench.specs.Chaining.{AnswersAny, RegistersOne, RegistersAll, ChangesTwice, ChangesOften, RegistersAndChanges, CallsOnce, CallsOften, RegistersAndCalls, no_blocks, HasChain, HaveChanged, HaveCalled}
use Rattle.srcubench.specs.Founding.{IsNew, EachBecomes}

-- what holds of two items holds of the items of two lists
all_zip : {X : Type 0} {Y : Type 0} (R : X → Y → Type 0) (S : X → Y → Type 0) (xs : List X) (ys : List Y) → ((x : X) (y : Y) → R x y → S x y) → AllZip R xs ys → AllZip S xs ys
all_zip R S [] [] more zip = zip
all_zip R S [] (y ∷ ys) more zip = zip
all_zip R S (x ∷ xs) [] more zip = zip
all_zip R S (x ∷ xs) (y ∷ ys) more zip = (more x y zip.0, all_zip R S xs ys more zip.1)

module _ {J : Type 0} where
  -- One more

  pub one_registered : (n : ℕ) (s : ChainState) (c : CpuView J) (t : ChainState) (d : CpuView J) (s' : ChainState) (c' : CpuView J) → RegistersAll n s c t d → RegistersOne n t d s' c' → RegistersAll (n + 1) s c s' c'
  one_registered n s c t d s' c' before one = subst (λ k. RegistersAll k s c s' c') (sym (add-one n)) (t, d, before, one)

  pub one_changed : (n : ℕ) (s : ChainState) (c : CpuView J) (t : ChainState) (d : CpuView J) (s' : ChainState) (c' : CpuView J) → ChangesOften n s c t d → ChangesTwice t d s' c' → ChangesOften (n + 1) s c s' c'
  one_changed n s c t d s' c' before one = subst (λ k. ChangesOften k s c s' c') (sym (add-one n)) (t, d, before, one)

  pub one_called : (m : ℕ) (v : ChainCell) (n : ℕ) (c d c' : CpuView J) → CallsOften m v n c d → CallsOnce m v d c' → CallsOften m v (n + 1) c c'
  one_called m v n c d c' before one = subst (λ k. CallsOften m v k c c') (sym (add-one n)) (d, before, one)

  -- Calls

  -- a call is one in the same domain
  pub same_called : (m : ℕ) (v : ChainCell) (c c' : CpuView J) → CallsOnce m v c c' → c'.cpu.domain ≡ c.cpu.domain
  same_called m v c c' calls =
      let once = calls.reads in
      once.ends.same.0 ∙ (once.reads.loads.same.0 ∙ (once.reads.finds.adds.same.0 ∙ (once.locks.enters.adds.same.0 ∙ once.locks.looks.load.same.0)))

  -- what the handlers of these boxes gave, they answered
  pub all_called : {H : Type 0} (gives : H → ℕ → Type 0) (handlers : List H) (m : ℕ) (v : ChainCell) (c c' : CpuView J) (last count : ℕ) → last ≡ 1 → count ≡ m → Calls (GivesAt gives handlers) v c c' last count → CallsOnce m v c c'
  all_called gives handlers m v c c' last count ok many calls =
      let all : Calls (GivesAt gives handlers) v c c' 1 m = subst (λ (z : ℕ × ℕ). Calls (GivesAt gives handlers) v c c' z.0 z.1) (λ k. (ok k, many k)) calls in record {
        blocks = all.blocks;
        reads = all.reads;
        answers = record {
          results = all.answers.results;
          given = all_zip (GivesAt gives handlers) AnswersAny (take m (map (λ (b : Block). b.id) all.blocks)) all.answers.results (λ id r g. refl) all.answers.given;
          answer = all.answers.answer;
        };
      }

-- A new domain

pub has_chain : (readers blocks : ℕ) (d : DomainView) (cpus : List (CpuView (Unit {0}))) (first last : CpuView (Unit {0})) (w : WriterView) (s s' : ChainState) → IsNew readers d cpus first w → s ≡ no_blocks blocks w → RegistersAll blocks s first s' last → HasChain readers blocks d cpus s' last
has_chain readers blocks d cpus first last w s s' new is registers = record { first = first; writer = w; new = new; registers = subst (λ (z : ChainState). RegistersAll blocks z first s' last) is registers }

pub have_changed : (rounds : ℕ) (d : DomainView) (cpus : List (CpuView (Unit {0}))) (w : WriterView) (s s' : ChainState) (c c' : CpuView (Unit {0})) → IsNew 0 d cpus c w → s ≡ no_blocks 4 w → RegistersAndChanges rounds s c s' c' → HaveChanged rounds
have_changed rounds d cpus w s s' c c' new is h =
    let has = has_chain 0 4 d cpus c h.cpu w s h.chain new is h.registers in
    record { domain = d; readers = cpus; chain = h.chain; changer = h.cpu; has = has; last_chain = s'; last = c'; changes = h.changes }

-- the blocks were registered in the chain that the view is of
pub registers_and_calls : (blocks times : ℕ) (w : WriterView) (s s' : ChainState) (c c' : CpuView (Unit {0})) (v : ChainCell) (cpus : List (CpuView (Unit {0})))
    → s ≡ no_blocks blocks w → RegistersAll blocks s c s' c' → v ≡ record { place = cell_of w; ids = blocks } → EachBecomes (CallsOften blocks v times) cpus → RegistersAndCalls blocks times w c cpus
registers_and_calls blocks times w s s' c c' v cpus empty registers is each = record {
  chain = s';
  cpu = c';
  registers = subst (λ (z : ChainState). RegistersAll blocks z c s' c') empty registers;
  each = subst (λ (z : ChainCell). EachBecomes (CallsOften blocks z times) cpus) is each;
}

-- the chain lies in the one cell
the_cell : (d : DomainView) (ids : ℕ) (w : WriterView) → w ≡ new_writer d.domain 0 2 → ◌≡◌ {A = ChainCell} (record { place = cell_of w; ids = ids }) (record { place = record { domain = d.domain; cell = 0 }; ids = ids })
the_cell d ids w pen = ap (λ (z : WriterView). record { place = cell_of z; ids = ids }) pen

pub have_called : (threads blocks times : ℕ) (d : DomainView) (cpus : List (CpuView (Unit {0}))) (c : CpuView (Unit {0})) (w : WriterView)
    → IsNew threads d cpus c w → RegistersAndCalls blocks times w c cpus → HaveCalled threads blocks times
have_called threads blocks times d cpus c w new h = record {
  domain = d;
  readers = cpus;
  chain = h.chain;
  changer = h.cpu;
  has = record { first = c; writer = w; new = new; registers = h.registers };
  each = subst (λ (z : ChainCell). EachBecomes (CallsOften blocks z times) cpus) (the_cell d blocks w new.pen) h.each;
}
