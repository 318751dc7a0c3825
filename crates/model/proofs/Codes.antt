-- Every code stands in document 01's table with its number: each at its place.
use mathlib.Core.Path.{refl}
use mathlib.Core.List.Memᴰ.{head as here}
use mathlib.Core.List.Memᴰ.{tail as there}
use Rattle.model.specs.Codes.{E_OK, E_SYS, E_PAR, E_ID, E_CTX, E_ILUSE, E_OBJ, E_NOEXS, E_QOVR, E_RLWAI, E_TMOUT, E_DLT, CodesNumbered}

pub codes_numbered : CodesNumbered
codes_numbered E_PAR = here refl
codes_numbered E_SYS = there (here refl)
codes_numbered E_CTX = there (there (here refl))
codes_numbered E_ID = there (there (there (here refl)))
codes_numbered E_NOEXS = there (there (there (there (here refl))))
codes_numbered E_OBJ = there (there (there (there (there (here refl)))))
codes_numbered E_QOVR = there (there (there (there (there (there (here refl))))))
codes_numbered E_ILUSE = there (there (there (there (there (there (there (here refl)))))))
codes_numbered E_TMOUT = there (there (there (there (there (there (there (there (here refl))))))))
codes_numbered E_OK = there (there (there (there (there (there (there (there (there (here refl)))))))))
codes_numbered E_RLWAI = there (there (there (there (there (there (there (there (there (there (here refl))))))))))
codes_numbered E_DLT = there (there (there (there (there (there (there (there (there (there (there (here refl)))))))))))
