use Rattle.std.proofs.Common.{rules}
use Rattle.mls_session.proofs.Common.{kept_of, terms_of}
use Rattle.mls_session.proofs.SessionLooks.{Looks-status}
use Rattle.mls_session.proofs.session.Session.look_at_status.Goals as goal

pub returns : goal.returns
returns c = Looks-status (terms_of c.args.setup.now c.args.pool.now) (kept_of c.args.pool.now c.args.self.now) _ (search rules)
