mod FourBytes
