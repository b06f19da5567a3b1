mod Working
