-- What a call of a processor says of the domain, from its act.
use Rattle.std.proofs.Common.{◌≡◌, ℕ, [], refl}
use Rattle.solo.proofs.Words.{put_cells, None, Act, loads, ActsAs, HasSameTables, IsSameDomain, Does, HaveMet}
use Rattle.solo.proofs.Meeting.{Hand, s', did_it, come_quietly, does, same_tables, same_domain, have_met}

module _ {J : Type 0} where
  -- all have met again, the domain is the same, and this
  pub record Says (t : Hand J) (it : Type 0) : Type 0 where
    pub met : HaveMet t.d' t.limits t.cpus' t.meets.left
    pub same : IsSameDomain t.s (s' t)
    pub what : it

  -- the same, but for the lists
  pub record SaysOnList (t : Hand J) (it : Type 0) : Type 0 where
    pub met : HaveMet t.d' t.limits t.cpus' t.meets.left
    pub same : HasSameTables t.s (s' t)
    pub what : it

  module _ (t : Hand J) (what : ℕ → Act) (did : ActsAs what t.was t.now) where
    pub says : (what t.p).list ≡ None → put_cells (what t.p).events ≡ [] → (it : Type 0) → it → Says t it
    says quiet none it h = record { met = have_met t (did_it t what did); same = same_domain t (did_it t what did) quiet none; what = h }

    pub says_on_list : put_cells (what t.p).events ≡ [] → (it : Type 0) → it → SaysOnList t it
    says_on_list none it h = record { met = have_met t (did_it t what did); same = same_tables t (did_it t what did) none; what = h }

    -- it does what it did
    pub says_does : (what t.p).list ≡ None → put_cells (what t.p).events ≡ [] → Says t (Does t.p what t.s.course (s' t).course)
    says_does quiet none = says quiet none _ (does t (did_it t what did) what refl)

  -- nothing was done
  pub still : (t : Hand J) → ActsAs loads t.was t.now → s' t ≡ t.s
  still t did = come_quietly t (did_it t loads did) refl refl
