use Rattle.std.proofs.Common.{length}
use Rattle.ra_browse.proofs.dated.+fits.Given as goal

abbrev pub decreases-fits : goal.decreases-fits
decreases-fits l = length l.form.now
