use Rattle.std.proofs.Common.{length}
use Rattle.df_session.proofs.following.+write_pages.Given as goal

abbrev pub decreases-write_pages : goal.decreases-write_pages
decreases-write_pages g l = length l.pages.now
