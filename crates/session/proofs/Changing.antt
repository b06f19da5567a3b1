-- What a change of the chain or of the table keeps of a domain with its names, its desk and its batches.
use Rattle.std.proofs.Common.{◌≡◌, ℕ, zero, suc, Bool, ◌++◌, List, [], ◌∷◌, Option, refl, sym, ap, ◌∙◌, subst, append-nil, append_assoc, arith}
use Rattle.std.specs.Prelude.{Result, Ok, Err, MatchResult, Some, None}
use Rattle.std.proofs.lemmas.List.{get_or-set_other}
use Rattle.std.proofs.lemmas.List.Elements.{All-weaker}
use Rattle.onedom.specs.declared.event.Event.{Event}
use Rattle.onedom.specs.declared.event.Event.TheVariants.{Note, Put}
use Rattle.onedom.specs.declared.event.Maker.TheVariants.{Processor}
use Rattle.onedom.specs.Histories.{IsLegal}
use Rattle.sections.specs.declared.writer.Standing.{Standing}
use Rattle.sections.specs.declared.writer.Standing.TheVariants as slot
use Rattle.sections.specs.Shelves.{blank_words}
use Rattle.sections.specs.WriterViews.{WriterView}
use Rattle.sections.specs.Writers.{question, questions, standing_of}
use Rattle.sections.specs.Words.{cells_in}
use Rattle.notify.specs.Blocks.{IsTextOf}
use Rattle.notify.specs.Chains.{ChainState}
use Rattle.notify.specs.Changes.{IsSameChain}
use Rattle.notify.specs.declared.block.Block.{Block}
use Rattle.notify.specs.declared.refusals.RegisterRefusal.{RegisterRefusal}
use Rattle.notify.specs.declared.refusals.RegisterRefusal.TheVariants as register
use Rattle.notify.specs.declared.refusals.UnregisterRefusal.{UnregisterRefusal}
use Rattle.notify.specs.declared.refusals.UnregisterRefusal.TheVariants as unregister
use Rattle.plugs.specs.Views.{TableState}
use Rattle.plugs.specs.declared.refusals.InstallRefusal.{InstallRefusal}
use Rattle.plugs.specs.declared.refusals.InstallRefusal.TheVariants as install
use Rattle.plugs.specs.declared.refusals.RemoveRefusal.{RemoveRefusal}
use Rattle.plugs.specs.declared.refusals.RemoveRefusal.TheVariants as remove
use Rattle.solo.specs.Courses.{Course}
use Rattle.solo.specs.Calls.{SoloView, IsSameDomain}
use Rattle.solo.specs.Chains as chains
use Rattle.solo.specs.Tables as tables
use Rattle.solo.specs.Shelf.{Shelf, in_cell, with_current}
use Rattle.solo.specs.Versions.{Puts, LacksSlot}
use Rattle.names.specs.declared.names.NamedToken.{NamedToken}
use Rattle.names.specs.declared.names.NamedToken.TheVariants as token
use Rattle.names.specs.Parkings.{ParkingView}
use Rattle.session.specs.Batches.{Batch, AreBatchesOf}
use Rattle.session.specs.Entries.{tokens_with, IsTokenOf, AreTogether, AreUsers}
use Rattle.session.proofs.Quiet.{AreQuiet, KeepsOn, does_keeps, same_keeps}
use Rattle.session.proofs.Together.{together_on}
use Rattle.session.proofs.Batches.{batches_on, IsKept}

-- Questions begin and end no section

question_quiet : (p : ℕ) (done : Bool) (s : Standing) (rest : List Event) → AreQuiet rest → AreQuiet (question p done s ++ rest)
question_quiet p done slot.Blank rest h = h
question_quiet p done slot.Out rest h = h
question_quiet p done slot.Current rest h = h
question_quiet p done (slot.Retired n) rest h = h

questions_quiet : (p : ℕ) (done : ℕ → Bool) (w : WriterView) (n : ℕ) (rest : List Event) → AreQuiet rest → AreQuiet (questions p done w n ++ rest)
questions_quiet p done w zero rest h = h
questions_quiet p done w (suc x) rest h = subst AreQuiet (sym (append_assoc (questions p done w x) (question p (done x) (standing_of w x)) rest))
    (questions_quiet p done w x (question p (done x) (standing_of w x) ++ rest) (question_quiet p (done x) (standing_of w x) rest h))

puts_keeps : {p : ℕ} {w w' : WriterView} {c c' : Course} → IsLegal c.standing.history → Puts p w w' c c' → KeepsOn c c'
puts_keeps {p} {w} {w'} legal h = does_keeps legal (questions_quiet p h.done w w.slots (Put w.cell h.slot.slot w'.version (Processor p) ∷ Note h.cookie (Processor p) ∷ []) tt) refl h.happens

lacks_keeps : {p : ℕ} {w w' : WriterView} {c c' : Course} → IsLegal c.standing.history → LacksSlot p w w' c c' → KeepsOn c c'
lacks_keeps {p} {w} legal h = does_keeps legal (subst AreQuiet (append-nil (questions p h.done w w.slots)) (questions_quiet p h.done w w.slots [] tt)) refl h.happens

-- Answers

module _ (p : ℕ) (c c' : Course) (legal : IsLegal c.standing.history) where
  pub registers_keeps : {T : Type 0} (block : Block) (id : ℕ) (s s' : ChainState) (r : Result T RegisterRefusal) → MatchResult r (λ _. chains.Registers p block s s' c c') (λ e. chains.RefusesRegister p id e s s' c c') → KeepsOn c c'
  registers_keeps block id s s' (Ok x) h = puts_keeps legal h.puts
  registers_keeps block id s s' (Err register.There) h = same_keeps legal h.1.1
  registers_keeps block id s s' (Err register.Full) h = same_keeps legal h.2.1
  registers_keeps block id s s' (Err register.NoSlot) h = lacks_keeps legal h.2.lacks
  registers_keeps block id s s' (Err register.Memory) h = absurd h

  pub unregisters_keeps : {T : Type 0} (id : ℕ) (s s' : ChainState) (r : Result T UnregisterRefusal) → MatchResult r (λ _. chains.Unregisters p id s s' c c') (λ e. chains.RefusesUnregister p id e s s' c c') → KeepsOn c c'
  unregisters_keeps id s s' (Ok x) h = puts_keeps legal h.puts
  unregisters_keeps id s s' (Err unregister.NotThere) h = same_keeps legal h.1.1
  unregisters_keeps id s s' (Err unregister.NoSlot) h = lacks_keeps legal h.1.lacks

  pub installs_keeps : (key plug : ℕ) (s s' : TableState) (r : Result ℕ InstallRefusal) → MatchResult r (λ version. tables.Installs p key plug version s s' c c') (λ e. tables.IsNotInstalled p key e s s' c c') → KeepsOn c c'
  installs_keeps key plug s s' (Ok x) h = puts_keeps legal h.puts
  installs_keeps key plug s s' (Err install.Full) h = same_keeps legal h.1.1
  installs_keeps key plug s s' (Err install.NoSlot) h = lacks_keeps legal h.1.lacks
  installs_keeps key plug s s' (Err install.Memory) h = absurd h

  pub removes_keeps : (key : ℕ) (s s' : TableState) (r : Result ℕ RemoveRefusal) → MatchResult r (λ version. tables.Removes p key version s s' c c') (λ e. tables.IsNotRemoved p key e s s' c c') → KeepsOn c c'
  removes_keeps key s s' (Ok x) h = puts_keeps legal h.puts
  removes_keeps key s s' (Err remove.NotThere) h = same_keeps legal h.1.1
  removes_keeps key s s' (Err remove.NoSlot) h = lacks_keeps legal h.1.lacks

-- What is current is nothing to names, desk and batches

abbrev with_shelf : SoloView (List ℕ) → Shelf → SoloView (List ℕ)
with_shelf d shelf = record d { shelf = shelf }

module _ (d : SoloView (List ℕ)) (shelf : Shelf) where
  token_reshelved : {A : Type 0} (t : NamedToken A) → IsTokenOf d t → IsTokenOf (with_shelf d shelf) t
  token_reshelved (token.Look l) h = h
  token_reshelved (token.Reading r) h = h
  token_reshelved (token.Held r) h = h
  token_reshelved (token.Ticket t) h = h
  token_reshelved (token.Lease l) h = h

  together_reshelved : {A : Type 0} (tokens : List (List ℕ × NamedToken A)) (q : ParkingView) → AreTogether d tokens q → AreTogether (with_shelf d shelf) tokens q
  together_reshelved tokens q h = record {
    all = record {
      legal = h.all.legal;
      each = All-weaker (λ (t : List ℕ × NamedToken _). IsTokenOf d t.1) (λ (t : List ℕ × NamedToken _). IsTokenOf (with_shelf d shelf) t.1) (λ t is. token_reshelved t.1 is) (tokens_with q.parked tokens) h.all.each;
      counted = h.all.counted;
    };
    desk = h.desk;
    apart = h.apart;
  }

  kept_reshelved : (o : Option Batch) → IsKept d o → IsKept (with_shelf d shelf) o
  kept_reshelved None h = tt
  kept_reshelved (Some b) h = record { of_domain = record { tallies = h.of_domain.tallies; processor = h.of_domain.processor; there = h.of_domain.there }; some = h.some; empty = h.empty }

  batches_reshelved : (kept : List (Option Batch)) → AreBatchesOf d kept → AreBatchesOf (with_shelf d shelf) kept
  batches_reshelved kept h = record {
    count = h.count;
    emptied = All-weaker (IsKept d) (IsKept (with_shelf d shelf)) (λ o is. kept_reshelved o is) kept h.emptied;
    here = h.here;
    outs = h.outs;
    unfinished = h.unfinished;
  }

-- the other cell is as it was
other_cell : {T E : Type 0} (r : Result T E) (cell other : ℕ) (words : List ℕ) (shelf shelf' : Shelf) → ((other ≡ cell) → ⊥) → MatchResult r (λ _. shelf' ≡ with_current cell words shelf) (λ _. shelf' ≡ shelf) → in_cell other shelf' ≡ in_cell other shelf
other_cell (Ok x) cell other words shelf shelf' apart h = ap (in_cell other) h ∙ get_or-set_other shelf cell other words blank_words apart
other_cell (Err e) cell other words shelf shelf' apart h = ap (in_cell other) h

module _ {A : Type 0} {d d' : SoloView (List ℕ)} {tokens : List (List ℕ × NamedToken A)} {q : ParkingView} {kept : List (Option Batch)} {s : ChainState} {b : TableState} (h : AreTogether d tokens q × AreBatchesOf d kept × AreUsers d s b)
    (same : IsSameDomain (record d { shelf = d'.shelf }) d') (on : KeepsOn d.course d'.course) {T E : Type 0} (r : Result T E) (words : List ℕ) where
  pub entry_chained : (s' : ChainState) → IsSameChain s s' → chains.IsCurrent d' s' → MatchResult r (λ _. d'.shelf ≡ with_current s.writer.cell words d.shelf) (λ _. d'.shelf ≡ d.shelf) → AreTogether d' tokens q × AreBatchesOf d' kept × AreUsers d' s' b
  entry_chained s' chain current shelf =
      let users = h.2 in
      let cells = ap cells_in same.0.0 in (
        together_on (record d { shelf = d'.shelf }) tokens q (together_reshelved d d'.shelf tokens q h.0) d' same.0 on.on,
        batches_on (record d { shelf = d'.shelf }) kept (batches_reshelved d d'.shelf kept h.1) d' same on.jobs,
        record {
          chain = current;
          first = chain.cell ∙ users.first;
          ids = chain.ids ∙ users.ids;
          table = record {
            here = users.table.here ∙ sym same.0.0;
            cell = (let low = users.table.cell.0 in omega (arith, low, cells), users.table.cell.1);
            table = users.table.table;
            text = other_cell r s.writer.cell b.writer.cell words d.shelf d'.shelf (λ e. let first = users.first in let second = users.second in absurd (omega (arith, e, first, second))) shelf ∙ users.table.text;
          };
          second = users.second;
        },
      )

  pub entry_tabled : (b' : TableState) → tables.IsSameTable b b' → tables.IsCurrent d' b' → MatchResult r (λ _. d'.shelf ≡ with_current b.writer.cell words d.shelf) (λ _. d'.shelf ≡ d.shelf) → AreTogether d' tokens q × AreBatchesOf d' kept × AreUsers d' s b'
  entry_tabled b' table current shelf =
      let users = h.2 in
      let cells = ap cells_in same.0.0 in (
        together_on (record d { shelf = d'.shelf }) tokens q (together_reshelved d d'.shelf tokens q h.0) d' same.0 on.on,
        batches_on (record d { shelf = d'.shelf }) kept (batches_reshelved d d'.shelf kept h.1) d' same on.jobs,
        record {
          chain = record {
            here = users.chain.here ∙ sym same.0.0;
            cell = (let low = users.chain.cell.0 in omega (arith, low, cells), users.chain.cell.1);
            small = users.chain.small;
            text = subst (λ w. IsTextOf s.ids w s.blocks) (sym (other_cell r b.writer.cell s.writer.cell words d.shelf d'.shelf (λ e. let first = users.first in let second = users.second in absurd (omega (arith, e, first, second))) shelf)) users.chain.text;
          };
          first = users.first;
          ids = users.ids;
          table = current;
          second = table.cell ∙ users.second;
        },
      )
