-- What a call that keeps a session's planes leaves for the next one: what it asks for, and what the setup says of the pool.
use Rattle.std.proofs.Common.{◌≡◌, ◌++◌, ℕ, List, [], ◌∷◌, length, refl, sym, ap, ◌∙◌, subst}
use Rattle.mls_session.proofs.Common.{CanDump, ChangesAmong, Layout, Pool, Setup, Terms, terms_of}
use Rattle.mls_paint.proofs.OwnerFrames.{ChangesAmong-refl, ChangesAmong-trans}
use Rattle.mls_session.specs.Sessions.{IsHome, IsMadeFor, IsReady, KeepsPlanes, Session, StaysSound, owners_of}
use Rattle.mls_session.proofs.CellFrames.{home-ChangesAmong, layouts-ChangesAmong, own_types-ChangesAmong}

-- no call keeps them
pub KeepsPlanes-refl : (pool : Pool) (session : Session) → IsHome pool session → KeepsPlanes pool pool session session
KeepsPlanes-refl pool session home = record {
  planes = record { home = home; only = ChangesAmong-refl pool (owners_of session); planes = refl; errors = refl; quota = refl };
  limit = refl;
}

pub StaysSound-refl : (setup : Setup) (pool : Pool) (session : Session) → IsHome pool session → StaysSound setup pool pool session session
StaysSound-refl setup pool session home = record { legal = λ legal. legal; marks_right = λ right. right; planes = KeepsPlanes-refl pool session home }

module _ (setup : Setup) (old new : Pool) (before after : Session) (keeps : KeepsPlanes old new before after) where
  pub owners_of-kept : owners_of after ≡ owners_of before
  owners_of-kept =
      ap (λ (planes : List ℕ). planes ++ after.design.errors.owner ∷ []) keeps.planes.planes
      ∙ ap (λ (errors : ℕ). before.design.planes ++ errors ∷ []) keeps.planes.errors

  pub IsMadeFor-kept : IsMadeFor setup before → IsMadeFor setup after
  IsMadeFor-kept made_for = record {
    design = record { planes = ap length keeps.planes.planes ∙ made_for.design.planes; quota = keeps.planes.quota ∙ made_for.design.quota };
    limit = keeps.limit ∙ made_for.limit;
  }

  pub CanDump-kept : CanDump setup old (owners_of before) → CanDump setup new (owners_of after)
  CanDump-kept can =
      subst (CanDump setup new) (sym owners_of-kept)
      (record { home = home-ChangesAmong old new (owners_of before) keeps.planes.only setup can; apart = can.apart; planes = can.planes; own_types = own_types-ChangesAmong old new (owners_of before) keeps.planes.only setup can })

  pub IsReady-kept : IsReady setup old before → IsReady setup new after
  IsReady-kept ready = record { home = keeps.planes.home; made_for = IsMadeFor-kept ready.made_for; can_dump = CanDump-kept ready.can_dump }

  pub terms_of-kept : CanDump setup old (owners_of before) → terms_of setup new ≡ terms_of setup old
  terms_of-kept can =
      let of_cells : List Layout → Terms = λ cells. record { config = record { tech = setup.tech; rules = setup.rules; cells = cells; quota = setup.quota; cell_tiles = setup.cell_tiles }; journal = setup.limit } in
      ap of_cells (layouts-ChangesAmong old new (owners_of before) keeps.planes.only setup can)

-- nor do two
pub KeepsPlanes-trans :
    (setup : Setup) (old mid new : Pool) (before during after : Session) → KeepsPlanes old mid before during → KeepsPlanes mid new during after
    → KeepsPlanes old new before after
KeepsPlanes-trans setup old mid new before during after first second = record {
  planes = record {
    home = second.planes.home;
    only = ChangesAmong-trans old mid new (owners_of before) first.planes.only
        (subst (ChangesAmong mid new) (owners_of-kept setup old mid before during first) second.planes.only);
    planes = second.planes.planes ∙ first.planes.planes;
    errors = second.planes.errors ∙ first.planes.errors;
    quota = second.planes.quota ∙ first.planes.quota;
  };
  limit = second.limit ∙ first.limit;
}
