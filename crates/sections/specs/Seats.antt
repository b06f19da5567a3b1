-- What the steps do to the seats that they are made with.
use Rattle.std.specs.Prelude.{None}
use Rattle.std.specs.Prelude.{◌≡◌, ℕ, ◌<◌, ◌≤◌, Bool, [], ◌∷◌, ◌++◌}
use Rattle.atomic_table.specs.Seated.{TableId}
use Rattle.atomic_table.specs.declared.shared.Seat.{Seat}
use Rattle.sseq.specs.declared.index.Index.{Index}
use Rattle.onedom.specs.declared.event.Maker.{Maker}
use Rattle.onedom.specs.declared.event.Maker.TheVariants.{Processor}
use Rattle.onedom.specs.declared.event.Event.TheVariants.{Begin, Note, Ask}
use Rattle.onedom.specs.Histories.{IsBeginning}
use Rattle.sections.specs.Slots.{Slot}
use Rattle.sections.specs.declared.view.Bounds.{Bounds}
use Rattle.sections.specs.declared.view.View.{View}
use Rattle.sections.specs.declared.view.Right.TheVariants.{Nothing, Section}
use Rattle.sections.specs.declared.view.Step.TheVariants.{LoadIndex}
use Rattle.sections.specs.declared.view.Role.TheVariants.{Cpu, Driver}
use Rattle.sections.specs.Words.{is_held, word_count, index_word}
use Rattle.sections.specs.declared.view.Shown.TheVariants.{To}
use Rattle.sections.specs.Shelves.{IsStart}
use Rattle.sections.specs.Rule.{steps_of, IsMaker, lacking, bearer, mark}
use Rattle.sections.specs.Plays.{IsSound, Adds, IsIndexWord, FindsNumber}
use Rattle.sseq.specs.Numbers.{cookie_at, done_at}

abbrev pub DomainSeat : Type 0
DomainSeat = Seat Slot View

-- the seat is at the table of a domain with these bounds
pub record IsPlaced (bounds : Bounds) (table : TableId) (seat : DomainSeat) : Type 0 where
  pub seated : seat.table_id ≡ table
  pub wide : table.words ≡ word_count bounds.processors bounds.cells
  pub cells : bounds.cells ≤ 4
  pub bare : seat.me.1 ≡ []
  pub sized : seat.me.0.processors ≡ bounds.processors

-- a section begins, and a token has the right to end it
pub record BeginsSection (held : Bool) (p : ℕ) (i : Index) (seat seat' token : DomainSeat) : Type 0 where
  pub section : ℕ
  pub after : View
  pub adds : Adds seat.me.0 (Begin section p i (Processor p)) after
  pub right : after.right ≡ Section section p i [] None
  pub kind : is_held section ≡ held
  pub same_table : (seat'.table_id ≡ seat.table_id) × (token.table_id ≡ seat.table_id)
  pub stays : seat'.me ≡ (lacking after, [])
  pub given : token.me ≡ (bearer after, [])

-- the number was loaded, and the cookie of it was given
pub record NotesNumber (seat : DomainSeat) (number : ℕ) (seat' : DomainSeat) : Type 0 where
  pub same_table : seat'.table_id ≡ seat.table_id
  pub bare : seat'.me.1 ≡ seat.me.1
  pub right : seat'.me.0.right ≡ seat.me.0.right
  pub finds : FindsNumber number seat'.me.0
  pub adds : (p : ℕ) → seat.me.0.role ≡ Cpu p → Adds seat.me.0 (Note (cookie_at number) (Processor p)) seat'.me.0

-- the number was loaded, and who asked was told whether the cookie is done there
pub record AsksNumber (cookie : ℕ) (seat : DomainSeat) (answer : Bool) (seat' : DomainSeat) : Type 0 where
  pub number : ℕ
  pub same_table : seat'.table_id ≡ seat.table_id
  pub bare : seat'.me.1 ≡ seat.me.1
  pub right : seat'.me.0.right ≡ seat.me.0.right
  pub finds : FindsNumber number seat'.me.0
  pub answer_is : answer ≡ done_at number cookie
  pub adds : (p : ℕ) → seat.me.0.role ≡ Cpu p → Adds seat.me.0 (Ask cookie answer (Processor p)) seat'.me.0

-- after one load of the index word, w has seen what v and o have, and else is as v was
pub record Covers (v o w : View) : Type 0 where
  pub value : ℕ
  pub current : value ≡ index_word w.changes
  pub processors : w.processors ≡ v.processors
  pub role : w.role ≡ v.role
  pub mine : w.mine ≡ v.mine
  pub right : w.right ≡ Nothing
  pub told : w.told ≡ []
  pub steps : (m : Maker) → IsMaker v.role m → steps_of m w.done ≡ steps_of m v.done ++ LoadIndex value ∷ []
  pub since : IsBeginning v.seen w.seen
  pub later : v.changes ≤ w.changes
  pub texts : IsStart v.texts w.texts
  pub driven : (k : ℕ) → v.role ≡ Driver k → w.changes ≡ v.changes
  pub shown : w.shown ≡ v.shown
  pub covers : IsBeginning o.seen w.seen
  pub not_before : o.changes ≤ w.changes
  pub brings : IsStart o.texts w.texts
  pub sound : IsSound w.processors w.role w.mine w.seen w.changes w.texts

-- after one load of the index word, w has seen just what o has, and else is as v was
pub record Accepts (v o w : View) : Type 0 where
  pub value : ℕ
  pub processors : w.processors ≡ v.processors
  pub role : w.role ≡ v.role
  pub mine : w.mine ≡ v.mine
  pub right : w.right ≡ Nothing
  pub told : w.told ≡ []
  pub steps : (m : Maker) → IsMaker v.role m → steps_of m w.done ≡ steps_of m v.done ++ LoadIndex value ∷ []
  pub seen : w.seen ≡ o.seen
  pub changes : w.changes ≡ o.changes
  pub texts : w.texts ≡ o.texts
  pub texts_since : IsStart v.texts w.texts
  pub found : IsIndexWord value o.changes
  pub heard : (p k changes : ℕ) → v.role ≡ Cpu p → o.role ≡ Driver k → o.shown ≡ To p changes → changes ≤ v.changes
  pub sound : IsSound w.processors w.role w.mine w.seen w.changes w.texts

-- what the seat of a processor has seen is noted
pub record NotesShown (o : View) (seat seat' : DomainSeat) : Type 0 where
  pub table : seat'.table_id ≡ seat.table_id
  pub me : seat'.me ≡ (record seat.me.0 { shown = mark o.role o.changes o.shown }, [])

-- it is the seat of one of so many processors
abbrev pub IsOfProcessor : ℕ → View → Type 0
IsOfProcessor processors v = (p : ℕ) × (v.role ≡ Cpu p) × (p < processors)

-- it is the seat of a processor or of the engine
abbrev pub IsOfMaker : View → Type 0
IsOfMaker v = (m : Maker) × IsMaker v.role m

-- it is a seat at the table that has no right
abbrev pub IsFreeAt : TableId → DomainSeat → Type 0
IsFreeAt table s = (s.table_id ≡ table) × (s.me.1 ≡ []) × (s.me.0.right ≡ Nothing)

-- the same seat at the same table
pub record IsSameSeat (seat seat' : DomainSeat) : Type 0 where
  pub table : seat'.table_id ≡ seat.table_id
  pub me : seat'.me ≡ seat.me
