-- What stays of a session that changes tiles of its own planes alone.
use Rattle.std.proofs.Common.{◌≡◌, ℕ, List, [], ◌∷◌, ◌++◌, sym, ap, subst, ◌∙◌}
use Rattle.mls_paint.proofs.OwnerFrames.{ChangesAmong-refl}
use Rattle.mls_session.specs.Designs.{Design, HasRightMarks, IsHome as IsDesignHome, KnowsRight}
use Rattle.mls_session.specs.Journals.{IsLegal}
use Rattle.mls_session.specs.OwnSteps.{Terms}
use Rattle.mls_session.specs.Sessions.{IsHome, KeepsPlanes, Session, StaysSound, kept_of, owners_of, state_of}
use Rattle.mls_session.specs.Setups.{config_of, terms_of}
use Rattle.mls_session.specs.declared.setup.Setup.{Setup}
use Rattle.mls_session.proofs.KeptPlanes.{IsReady-kept}
use Rattle.mls_tilepool.specs.Pools.{Pool}
use Rattle.mls_server.specs.Servers.{IsOpenIn}
use Rattle.mls_server.specs.declared.server.OpenSession.{OpenSession}
use Rattle.mls_server.proofs.OtherSessions.{KeepsOthers, cell_layouts-apart, others-ChangesAmong}
use Rattle.mls_server.proofs.SessionTerms.{terms-same}

module _ {old new : Pool} {before after : Session} (keeps : KeepsPlanes old new before after) where
  pub owners_of-kept : owners_of after ≡ owners_of before
  owners_of-kept =
      ap (λ (planes : List ℕ). planes ++ after.design.errors.owner ∷ []) keeps.planes.planes
      ∙ ap (λ (owner : ℕ). before.design.planes ++ owner ∷ []) keeps.planes.errors

  pub others-kept : KeepsOthers old new (owners_of before)
  others-kept = others-ChangesAmong keeps.planes.only

module _ {old : Pool} {setup : Setup} {before : OpenSession} (made : IsOpenIn setup old before) {new : Pool} (after : OpenSession)
    (keeps : KeepsPlanes old new before.session after.session) where
  terms_of-kept : terms_of setup new ≡ terms_of setup old
  terms_of-kept = terms-same setup (cell_layouts-apart (others-kept keeps) setup.library made.ready.can_dump.apart)

  pub IsOpenIn-kept :
      StaysSound setup old new before.session after.session → KnowsRight (config_of setup old) (state_of new after.session).design after.checked → IsOpenIn setup new after
  IsOpenIn-kept sound knows = record {
    ready = IsReady-kept setup old new before.session after.session keeps made.ready;
    marks_right = subst (λ (terms : Terms). HasRightMarks terms.config (state_of new after.session).design) (sym terms_of-kept) (sound.marks_right made.marks_right);
    knows_right = subst (λ (terms : Terms). KnowsRight terms.config (state_of new after.session).design after.checked) (sym terms_of-kept) knows;
    legal = subst (λ (terms : Terms). IsLegal terms (kept_of new after.session)) (sym terms_of-kept) (sound.legal made.legal);
  }

-- where the pool and the design stay
pub KeepsPlanes-same :
    (pool : Pool) (before after : Session) → IsHome pool before → after.design ≡ before.design → after.limit ≡ before.limit → KeepsPlanes pool pool before after
KeepsPlanes-same pool before after home same limit = record {
  planes = record {
    home = subst (λ (design : Design). IsDesignHome pool design) (sym same) home;
    only = ChangesAmong-refl pool (owners_of before);
    planes = ap (λ (design : Design). design.planes) same;
    errors = ap (λ (design : Design). design.errors.owner) same;
    quota = ap (λ (design : Design). design.quota) same;
  };
  limit = limit;
}
