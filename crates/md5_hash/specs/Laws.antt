-- Laws of MD5 for whoever hashes with it.
use Rattle.std.specs.Prelude.{ℕ, ◌≡◌, refl, List, length}
use Rattle.digests.specs.Md5.{md5}

pub length-md5 : (m : List ℕ) → length (md5 m) ≡ 16
unfolding md5
length-md5 m = refl
