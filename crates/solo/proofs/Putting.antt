-- A version is put, or none, by a processor of the domain in one hand.
use Rattle.std.proofs.Common.{Bool, ◌≡◌, ℕ, ◌+◌, ◌<◌, List, [], refl, sym, ap, ◌∙◌, subst, append-nil}
use Rattle.solo.proofs.Words.{slice_set, Processor, made_by, Current, Retired, words_of, questions, WriterView, SlotView, CpuView, Act, ActsAs, puts, asks_for, Frees as FreesHere, Claims, FindsNone, Puts as Publishes, IsSameDomain, in_cell, with_current, HaveMet, reclaims, publishes as puts_version}
use Rattle.solo.proofs.Words.{LacksSlot}
use Rattle.solo.specs.Versions.{Frees, Puts}
use Rattle.solo.proofs.Adding.{Did, did_both}
use Rattle.solo.proofs.Meeting as meeting
use Rattle.solo.proofs.Meeting.{Hand, held}
use Rattle.solo.proofs.Shelving.{shelf_put, texts_stay, in_cell_put}
use Rattle.solo.proofs.Reclaiming.{reclaim_did, nothing_did, questions_put}
use Rattle.solo.proofs.Visiting.{step, first_here, seen_before}

module _ {J : Type 0} where
  -- the same domain, but for what is current in its cells
  abbrev pub SameBut : Hand J → Type 0
  SameBut t = IsSameDomain (record t.s { shelf = (meeting.s' t).shelf }) (meeting.s' t)

  -- so much is current as was
  abbrev pub ShelfStays : Hand J → Type 0
  ShelfStays t = (meeting.s' t).shelf ≡ t.s.shelf

  -- all have met again, and this
  pub record SaysBut (t : Hand J) (it : Type 0) : Type 0 where
    pub met : HaveMet t.d' t.limits t.cpus' t.meets.left
    pub same : SameBut t
    pub what : it

  module _ (t : Hand J) where
    own_before : t.was.cpu.mine ≡ made_by (Processor t.p) t.was.cpu.seen
    own_before = (held t).mine ∙ ap (made_by (Processor t.p)) (ap (λ x. x.course.standing.history) (meeting.view_is t) ∙ sym (seen_before t))

    freed : (w w' : WriterView) (at : CpuView J) (h : FreesHere w t.was w' at) → Did t.p (reclaims h.reclaims.done w t.p) t.was at
    freed w w' at h = reclaim_did t.p t.was at (first_here t) own_before w w' h.reclaims h.rest

    frees : (w w' : WriterView) (at : CpuView J) (h : FreesHere w t.was w' at) → Frees h.reclaims.done w w'
    frees w w' at h = record { standings = h.reclaims.standings; same = h.reclaims.same.0 }

    -- No slot was free

    module _ (w w' : WriterView) (h : FindsNone w t.was w' t.now) where
      pub lacks : LacksSlot t.p w w' t.s.course (meeting.s' t).course
      lacks = record { done = h.frees.reclaims.done; frees = frees w w' t.now h.frees; none = h.none; happens = meeting.does t (freed w w' t.now h.frees) _ refl }

      pub lacks_says : {it K : Type 0} → it → (SameBut t → ShelfStays t → K) → SaysBut t (it × ShelfStays t × K)
      lacks_says what current =
          let did = freed w w' t.now h.frees in
          let same : SameBut t = (meeting.same_but_shelf t did, meeting.same_lines t did refl) in
          let shelf = meeting.same_shelf t did (questions_put t.p h.frees.reclaims.done w w.slots) in
          record { met = meeting.have_met t did; same = same; what = (what, shelf, current same shelf) }

    -- A version was put

    module _ (w w' : WriterView) (words : List ℕ) {slot : SlotView} {given : WriterView} {at : CpuView J} (finds : Claims slot w t.was given at) (publishes : Publishes slot.slot words given at w' t.now) where
      at_here : at.cpu.processor ≡ t.p
      at_here = (freed w finds.freed at finds.frees).events.same.3 ∙ first_here t

      given_cell : given.cell ≡ w.cell
      given_cell = finds.gives.same.cell ∙ finds.frees.reclaims.same.0.cell

      put_here : publishes.acts.between.cpu.processor ≡ t.p
      put_here = publishes.acts.put.events.same.3 ∙ at_here

      abbrev done : ℕ → Bool
      done = finds.frees.reclaims.done

      abbrev act : Act
      act = puts_version done w slot.slot w'.version publishes.cookie t.p

      put_did : Did t.p act t.was t.now
      put_did = did_both t.p _ _ publishes.cookie (freed w finds.freed at finds.frees)
          (did_both t.p _ _ publishes.cookie (step t (puts w.cell slot.slot w'.version) at publishes.acts.between at_here (subst (λ (n : ℕ). ActsAs (puts n slot.slot w'.version) at publishes.acts.between) given_cell publishes.acts.put))
          (step t (asks_for publishes.cookie 0) publishes.acts.between t.now put_here publishes.acts.next))

      -- the words of the version are known to all
      all_texts : t.meets.left.seat.texts ≡ t.now.cpu.texts
      all_texts = texts_stay t.now.cpu.seen [] t.meets.left.seat.seen (sym (meeting.seen_first_of_all t put_did) ∙ sym (append-nil t.now.cpu.seen)) refl t.now.cpu.texts t.meets.left.seat.texts (meeting.texts_start t put_did) publishes.puts.puts.notes.adds.history.texts (meeting.together t put_did).history.texts

      pub are_put : Puts t.p w w' t.s.course (meeting.s' t).course
      are_put =
          let filled = publishes.fills in
          let one = publishes.puts.puts in record {
            done = done;
            freed = finds.freed;
            frees = frees w finds.freed at finds.frees;
            given = given;
            slot = slot;
            gives = finds.gives;
            version = one.version ∙ ap (λ n. n + 1) filled.same.version;
            cookie = publishes.cookie;
            standings = one.standings ∙ (λ i. slice_set (slice_set (filled.standings i) (filled.same.current i) (Retired publishes.cookie)) slot.slot Current);
            current = one.current;
            happens = meeting.does t put_did _ refl;
          }

      module _ (low : w.cell < 4) (has : words_of w.cell w'.version t.now.cpu.texts ≡ words) where
        shelf_has : (meeting.s' t).shelf ≡ with_current w.cell words t.s.shelf
        shelf_has =
            ap (λ x. x.shelf) (meeting.come t put_did)
            ∙ (shelf_put t.v.seat.seen (questions t.p done w w.slots) t.meets.left.seat.seen w.cell slot.slot w'.version publishes.cookie (Processor t.p) (meeting.history_is t put_did) (questions_put t.p done w w.slots)
            t.v.seat.texts t.meets.left.seat.texts (meeting.engine_meets t put_did).texts t.met.together.history.texts (meeting.together t put_did).history.texts words (ap (words_of w.cell w'.version) all_texts ∙ has) low
            ∙ ap (with_current w.cell words) (sym (ap (λ x. x.shelf) (meeting.view_is t))))

        -- what is current in the cell then
        there : in_cell w.cell (meeting.s' t).shelf ≡ words
        there = ap (in_cell w.cell) (shelf_has ∙ ap (with_current w.cell words) (ap (λ x. x.shelf) (meeting.view_is t))) ∙ in_cell_put w.cell low t.v.seat.seen t.v.seat.texts words

        pub put_says : {it K : Type 0} → it → (SameBut t → in_cell w.cell (meeting.s' t).shelf ≡ words → K) → SaysBut t (it × ((meeting.s' t).shelf ≡ with_current w.cell words t.s.shelf) × K)
        put_says what current =
            let same : SameBut t = (meeting.same_but_shelf t put_did, meeting.same_lines t put_did refl) in
            record { met = meeting.have_met t put_did; same = same; what = (what, shelf_has, current same there) }

    -- Nothing was done

    pub nothing_says : {it K : Type 0} → t.now ≡ t.was → ((meeting.s' t).course ≡ t.s.course → it) → (SameBut t → ShelfStays t → K) → SaysBut t (it × ShelfStays t × K)
    nothing_says unmoved what current =
        let did = nothing_did t.p t.was t.now (sym unmoved) in
        let same : SameBut t = (meeting.same_but_shelf t did, meeting.same_lines t did refl) in
        let shelf = meeting.same_shelf t did refl in
        record { met = meeting.have_met t did; same = same; what = (what (ap (λ x. x.course) (meeting.come t did)), shelf, current same shelf) }
