-- What the calls of a plug-in table say of the domain in one hand.
use Rattle.std.proofs.Common.{◌≡◌, ℕ, ◌<◌, ◌≤◌, Option, List, ◌++◌, refl, sym, ap, ◌∙◌, subst, arith}
use Rattle.solo.proofs.Words.{true, Result, Ok, Err, MatchResult, IfOk, IfErr, Index, beginning_refl, beginning_trans, Exhausted, words_of, ReadingView, LooksInVain, WriterView, cells_in, start_trans, index_now, CpuView, Act, ActsAs, loads, plug_of, IsTable, text_of, TableState, LeaseView}
use Rattle.solo.proofs.Words.{IsOutOfSections, Does, in_cell, with_current, IsSameTable, Installs, IsNotInstalled, Removes, IsNotRemoved, HoldsRows, leases, Visits}
use Rattle.domain.specs.Acting as doing
use Rattle.plugs.specs.declared.rows.Row.{Row}
use Rattle.plugs.specs.declared.refusals.InstallRefusal.{InstallRefusal}
use Rattle.plugs.specs.declared.refusals.InstallRefusal.TheVariants as install
use Rattle.plugs.specs.declared.refusals.RemoveRefusal.{RemoveRefusal}
use Rattle.plugs.specs.declared.refusals.RemoveRefusal.TheVariants as remove
use Rattle.plugs.specs.Changes as plugs
use Rattle.plugs.specs.Reading.{LooksUp, Leases as LeasesHere, Gets}
use Rattle.plugs.proofs.CallerLemmas.{looked_up, got}
use Rattle.solo.specs.Tables.{IsCurrent, Leases}
use Rattle.solo.specs.Versions.{Puts}
use Rattle.solo.proofs.Adding.{Did, did_both}
use Rattle.solo.proofs.Meeting as meeting
use Rattle.solo.proofs.Meeting.{Hand, s', held}
use Rattle.solo.proofs.Called.{Says}
use Rattle.solo.proofs.Quiet.{begins_here}
use Rattle.solo.proofs.Kept.{IsKept, by_itself, by_act, by_freeing, by_putting, kept_on}
use Rattle.solo.proofs.Putting.{SaysBut, SameBut, ShelfStays, lacks, lacks_says, are_put, put_says, nothing_says}
use Rattle.solo.proofs.Visiting.{Reads, step, first_here, seen_before, found_words, words_found, visit_says, refused_says}

module _ {J : Type 0} where
  -- The processor is the same

  by_publishing : {text : List ℕ} {version : ℕ} {w w' : WriterView} {c d : CpuView J} → plugs.Publishes text version w c w' d → IsKept c d
  by_publishing h = by_putting h.claims h.puts

  pub by_install : (key plug : ℕ) (s s' : TableState) (c d : CpuView J) (r : Result ℕ InstallRefusal) → MatchResult r (λ v. plugs.Installs key plug v s c s' d) (λ e. plugs.IsNotInstalled key e s c s' d) → IsKept c d
  by_install key plug s t c d (Ok v) h = by_publishing h.publishes
  by_install key plug s t c d (Err install.Full) h = by_itself c d h.2
  by_install key plug s t c d (Err install.NoSlot) h = by_freeing h.none.frees
  by_install key plug s t c d (Err install.Memory) h = absurd h

  pub by_remove : (key : ℕ) (s s' : TableState) (c d : CpuView J) (r : Result ℕ RemoveRefusal) → MatchResult r (λ v. plugs.Removes key v s c s' d) (λ e. plugs.IsNotRemoved key e s c s' d) → IsKept c d
  by_remove key s t c d (Ok v) h = by_publishing h.publishes
  by_remove key s t c d (Err remove.NotThere) h = by_itself c d h.2
  by_remove key s t c d (Err remove.NoSlot) h = by_freeing h.none.frees

  pub by_lookup : (cell key : ℕ) (c d : CpuView J) (r : Result (Option ℕ) Exhausted) → MatchResult r (λ plug. LooksUp cell key plug c d) (λ _. LooksInVain c.cpu d.cpu) → IfErr r (λ _. ActsAs loads c d) → IsKept c d
  by_lookup cell key c d (Ok plug) h acts = kept_on c h.begun d (by_act _ _ c h.begun h.acts)
      (kept_on h.begun h.finds.at d (by_act _ _ h.begun h.finds.at h.finds.acts) (kept_on h.finds.at h.at d (by_act _ _ h.finds.at h.at h.finds.loads.loads.acts) (by_act _ _ h.at d h.closes)))
  by_lookup cell key c d (Err x) h acts = by_act _ _ c d acts

  pub by_lease : (cell : ℕ) (c d : CpuView J) (r : Result LeaseView Exhausted) → MatchResult r (λ l. LeasesHere cell l c d) (λ _. LooksInVain c.cpu d.cpu) → IfErr r (λ _. ActsAs loads c d) → IsKept c d
  by_lease cell c d (Ok l) h acts = kept_on c h.begun d (by_act _ _ c h.begun h.acts) (by_act _ _ h.begun d h.looks)
  by_lease cell c d (Err x) h acts = by_act _ _ c d acts

  module _ (t : Hand J) where
    -- Changes

    module _ (s s' : TableState) (same : IsSameTable s s') (was : IsCurrent t.s s) where
      current_now : IsTable s'.rows → SameBut t → in_cell s.writer.cell (meeting.s' t).shelf ≡ text_of s'.rows → IsCurrent (meeting.s' t) s'
      current_now table domain text = record {
        here = same.domain ∙ (was.here ∙ sym domain.0.0);
        cell = (let low = was.cell.0 in let few = was.cell.1 in let c = same.cell in let n = ap cells_in domain.0.0 in (omega (arith, low, c, n), omega (arith, few, c)));
        table = table;
        text = ap (λ n. in_cell n (meeting.s' t).shelf) same.cell ∙ text;
      }

      current_kept : s'.rows ≡ s.rows → SameBut t → ShelfStays t → IsCurrent (meeting.s' t) s'
      current_kept rows domain shelf = current_now (subst IsTable (sym rows) was.table) domain (ap (in_cell s.writer.cell) shelf ∙ (was.text ∙ ap text_of (sym rows)))

      abbrev Shelved : {T E : Type 0} → Result T E → Type 0
      Shelved r = MatchResult r (λ _. (meeting.s' t).shelf ≡ with_current s.writer.cell (text_of s'.rows) t.s.shelf) (λ _. ShelfStays t)

      -- the rows were published
      module _ (version : ℕ) (h : plugs.Publishes (text_of s'.rows) version s.writer t.was s'.writer t.now) (has : words_of s.writer.cell version t.now.cpu.texts ≡ text_of s'.rows) where
        published : {it : Type 0} → it → IsTable s'.rows → SaysBut t (it × ((meeting.s' t).shelf ≡ with_current s.writer.cell (text_of s'.rows) t.s.shelf) × IsCurrent (meeting.s' t) s')
        published what table = put_says t s.writer s'.writer (text_of s'.rows) h.claims h.puts was.cell.1 (ap (λ v. words_of s.writer.cell v t.now.cpu.texts) h.current ∙ has) what (current_now table)

        puts_are : Puts t.p s.writer s'.writer t.s.course (meeting.s' t).course
        puts_are = are_put t s.writer s'.writer (text_of s'.rows) h.claims h.puts

      pub install_says : (key plug : ℕ) (r : Result ℕ InstallRefusal) → MatchResult r (λ v. plugs.Installs key plug v s t.was s' t.now) (λ e. plugs.IsNotInstalled key e s t.was s' t.now) → IfOk r (λ v. words_of s.writer.cell v t.now.cpu.texts ≡ text_of s'.rows)
          → SaysBut t (MatchResult r (λ v. Installs t.p key plug v s s' t.s.course (meeting.s' t).course) (λ e. IsNotInstalled t.p key e s s' t.s.course (meeting.s' t).course) × Shelved r × IsCurrent (meeting.s' t) s')
      install_says key plug (Ok v) h has = published v h.publishes has (record { maps = h.maps; puts = puts_are v h.publishes has; version_is = sym h.publishes.current }) h.maps.table
      install_says key plug (Err install.Full) h has = nothing_says t h.2 (λ course. (h.0, (h.1, course))) (current_kept (ap (λ x. x.rows) h.1))
      install_says key plug (Err install.NoSlot) h has = lacks_says t s.writer s'.writer h.none (h.room, record { lacks = lacks t s.writer s'.writer h.none; rows = h.rows }) (current_kept h.rows)
      install_says key plug (Err install.Memory) h has = absurd h

      pub remove_says : (key : ℕ) (r : Result ℕ RemoveRefusal) → MatchResult r (λ v. plugs.Removes key v s t.was s' t.now) (λ e. plugs.IsNotRemoved key e s t.was s' t.now) → IfOk r (λ v. words_of s.writer.cell v t.now.cpu.texts ≡ text_of s'.rows)
          → SaysBut t (MatchResult r (λ v. Removes t.p key v s s' t.s.course (meeting.s' t).course) (λ e. IsNotRemoved t.p key e s s' t.s.course (meeting.s' t).course) × Shelved r × IsCurrent (meeting.s' t) s')
      remove_says key (Ok v) h has = published v h.publishes has (record { there = h.there; unmaps = h.unmaps; puts = puts_are v h.publishes has; version_is = sym h.publishes.current }) h.unmaps.table
      remove_says key (Err remove.NotThere) h has = nothing_says t h.2 (λ course. (h.0, (h.1, course))) (current_kept (ap (λ x. x.rows) h.1))
      remove_says key (Err remove.NoSlot) h has = lacks_says t s.writer s'.writer h.none (h.there, record { lacks = lacks t s.writer s'.writer h.none; rows = h.rows }) (current_kept h.rows)

    -- Reads

    abbrev IsOut : Type 0
    IsOut = IsOutOfSections t.s.limits t.p (index_now t.s.course.standing) t.s.course × (s' t ≡ t.s)

    module _ (s : TableState) (cell : ℕ) (is : cell ≡ s.writer.cell) (now : IsCurrent t.s s) where
      low_cell : cell < 4
      low_cell = subst (λ n. n < 4) (sym is) now.cell.1

      text : in_cell cell t.s.shelf ≡ text_of s.rows
      text = ap (λ n. in_cell n t.s.shelf) is ∙ now.text

      module _ (key : ℕ) (plug : Option ℕ) (h : LooksUp cell key plug t.was t.now) where
        abbrev reads_of : Reads cell t.was t.now
        reads_of = record {
          reading = h.reading;
          begun = h.begun;
          locks = h.locks;
          begins_as = h.acts;
          found = h.finds.found;
          between = h.finds.at;
          finds = h.finds.finds;
          finds_as = h.finds.acts;
          behind = h.at;
          loads_as = h.finds.loads.loads.acts;
          ends_as = h.closes;
        }

        plug_is : plug ≡ plug_of s.rows key
        plug_is = looked_up cell key plug s.rows t.was t.now h (now.table, found_words t cell reads_of low_cell ∙ text)

      -- a key is looked up in the rows of the table
      pub lookup_says : (key : ℕ) (r : Result (Option ℕ) Exhausted) → MatchResult r (λ plug. LooksUp cell key plug t.was t.now) (λ _. LooksInVain t.was.cpu t.now.cpu) → IfErr r (λ _. ActsAs loads t.was t.now)
          → Says t (MatchResult r (λ _. Visits t.s.limits t.p s.writer.cell t.s.course (s' t).course) (λ _. IsOut) × MatchResult r (λ plug. plug ≡ plug_of s.rows key) (λ _. Unit {0}))
      lookup_says key (Ok plug) h acts =
          let it = visit_says t cell (reads_of key plug h) in
          record { met = it.met; same = it.same; what = (subst (λ n. Visits t.s.limits t.p n t.s.course (s' t).course) is it.what, plug_is key plug h) }
      lookup_says key (Err x) h acts = let it = refused_says t x h acts in record { met = it.met; same = it.same; what = (it.what, tt) }

      -- A lease

      module _ (l : LeaseView) (h : LeasesHere cell l t.was t.now) where
        begun_here : h.begun.cpu.processor ≡ t.p
        begun_here = h.acts.events.same.3 ∙ first_here t

        abbrev a_lease : Act
        a_lease = leases l.held.section l.held.index cell l.found.slot l.found.version t.p

        first_did : Did t.p (doing.begins l.held.section l.held.index t.p) t.was h.begun
        first_did = step t (doing.begins l.held.section l.held.index) t.was h.begun (first_here t) h.acts

        second_did : Did t.p (doing.finds l.held.section cell l.found t.p) h.begun t.now
        second_did = step t (doing.finds l.held.section cell l.found) h.begun t.now begun_here h.looks

        lease_did : Did t.p a_lease t.was t.now
        lease_did = did_both t.p _ _ 0 first_did second_did

        whole : t.now.cpu.seen ≡ t.was.cpu.seen ++ a_lease.events
        whole = meeting.seen_first_of_all t lease_did ∙ (meeting.history_is t lease_did ∙ ap (λ e. e ++ a_lease.events) (sym (seen_before t)))

        holds : HoldsRows l s.rows
        holds = record {
          table = now.table;
          text = words_found t cell l.held h.begun.cpu t.now.cpu l.found h.finds (start_trans h.downs.looks.load.texts h.downs.enters.adds.texts) (beginning_trans first_did.events.since second_did.events.since) (beginning_refl t.now.cpu.seen) a_lease.events whole refl low_cell ∙ text;
        }

        leases_now : Leases t.s.limits t.s.table t.p s.writer.cell l t.s.course (s' t).course
        leases_now =
            let late : h.downs.between.changes ≤ t.now.cpu.changes = (let a = h.downs.enters.adds.later in let b = second_did.events.later in omega (arith, a, b)) in
            let here = begins_here t true h.begun.cpu l.held h.downs (meeting.changes_are t lease_did) late in record {
              room = here.1;
              slot = l.found.slot;
              happens = subst (λ (z : Index × ℕ). Does t.p (leases l.held.section z.0 z.1 l.found.slot l.found.version) t.s.course (s' t).course) (λ i. (here.0 i, is i)) (meeting.does t lease_did _ refl);
              reading = record {
                table_is = ap (λ (x : ReadingView). x.domain) h.downs.enters.reading ∙ (h.downs.looks.load.same.0 ∙ (held t).domain);
                processor = ap (λ (x : ReadingView). x.processor) h.downs.enters.reading ∙ (h.downs.looks.load.same.3 ∙ (held t).processor);
                index = here.0;
              };
            }

      pub lease_says : (r : Result LeaseView Exhausted) → MatchResult r (λ l. LeasesHere cell l t.was t.now) (λ _. LooksInVain t.was.cpu t.now.cpu) → IfErr r (λ _. ActsAs loads t.was t.now)
          → Says t (MatchResult r (λ l. Leases t.s.limits t.s.table t.p s.writer.cell l t.s.course (s' t).course) (λ _. IsOut) × MatchResult r (λ l. HoldsRows l s.rows) (λ _. Unit {0}))
      lease_says (Ok l) h acts = record {
        met = meeting.have_met t (lease_did l h);
        same = meeting.same_domain t (lease_did l h) refl refl;
        what = (leases_now l h, holds l h);
      }
      lease_says (Err x) h acts = let it = refused_says t x h acts in record { met = it.met; same = it.same; what = (it.what, tt) }

  -- what a lease reads
  pub read_rows : (l : LeaseView) (key : ℕ) (plug : Option ℕ) (c d : CpuView J) → Gets l key plug c d → (rows : List Row) → HoldsRows l rows → plug ≡ plug_of rows key
  read_rows l key plug c d h rows holds = got l key plug rows c d h (holds.table, holds.text)
